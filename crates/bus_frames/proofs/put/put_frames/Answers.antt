use Rattle.ttp_base.proofs.Outputs.{Wrote-none}
use Rattle.bus_frames.proofs.put.put_frames.Goals as goal

pub returns-in_default-clause-memory : goal.returns-in_default-clause-memory
returns-in_default-clause-memory g c same = Wrote-none _
