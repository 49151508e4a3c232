use Rattle.std.proofs.Common.{arith}
use Rattle.script_errors.proofs.read.tell_list.Goals as goal

pub cut-requires : goal.cut-requires
cut-requires c = omega (
  arith,
  c.loop-line.invariant.0.count,
  c.loop-line.invariant.0.counted,
  c.in-Some.ensures.within,
  c.requires,
)
