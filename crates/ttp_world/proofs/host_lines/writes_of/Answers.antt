use Rattle.ttp_world.proofs.Words.{arith, common_steps}
use Rattle.ttp_world.proofs.HostLists.{keyed_writes-more}
use Rattle.ttp_world.proofs.host_lines.writes_of.Goals as goal

pub loop-place-preserved : goal.loop-place-preserved
loop-place-preserved c = grind (arith, common_steps, keyed_writes-more)
