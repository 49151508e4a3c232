use Rattle.hypothesis.proofs.Words.{sym, arith}
use Rattle.hypothesis.proofs.FaultSlots.{earliest-some}
use Rattle.hypothesis.proofs.distances.earliest_with.Goals as goal

pub returns-else-count-eq0 : goal.returns-else-count-eq0
returns-else-count-eq0 c = sym (earliest-some c.args.gap c.args.earliest c.args.slot c.args.count (omega arith))
