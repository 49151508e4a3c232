use Rattle.ttp_world.proofs.Words.{arith, common_steps, filter_map-append}
use Rattle.ttp_world.proofs.host_lines.reads_of.Goals as goal

pub loop-event-preserved : goal.loop-event-preserved
loop-event-preserved c = grind (arith, common_steps, filter_map-append)
