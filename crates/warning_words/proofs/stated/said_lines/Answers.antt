use Rattle.std.proofs.Common.{arith}
use Rattle.warning_words.proofs.stated.said_lines.Goals as goal

pub cut-requires : goal.cut-requires
cut-requires c = omega (
  arith,
  c.loop-line.invariant.count,
  c.loop-line.invariant.counted,
  c.in-Some.ensures.within,
  c.requires,
)

pub said_of-requires : goal.said_of-requires
said_of-requires c = omega
    (arith, c.loop-line.invariant.count, c.loop-line.invariant.counted, c.in-Some.ensures.within, c.requires)
