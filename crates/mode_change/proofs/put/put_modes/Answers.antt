use Rattle.ttp_base.proofs.Outputs.{Wrote-none}
use Rattle.mode_change.proofs.put.put_modes.Goals as goal

pub returns-in_default-clause-memory : goal.returns-in_default-clause-memory
returns-in_default-clause-memory g c same = Wrote-none _
