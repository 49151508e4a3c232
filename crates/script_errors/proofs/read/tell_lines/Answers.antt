use Rattle.std.proofs.Common.{arith}
use Rattle.script_errors.proofs.Reading.{reading_none}
use Rattle.script_errors.proofs.read.tell_lines.Goals as goal

pub loop-line-init : goal.loop-line-init
loop-line-init c = reading_none c.args.list.now c.args.text.now c.args.found.now
    _ (c.new-so_far.ensures c.args.list.now)

pub cut-requires : goal.cut-requires
cut-requires c = omega (
  arith,
  c.loop-line.invariant.count,
  c.loop-line.invariant.counted,
  c.in-Some.ensures.within,
  c.requires.size,
)

pub take_line-requires-clause-size : goal.take_line-requires-clause-size
take_line-requires-clause-size c =
    omega (arith, c.loop-line.invariant.count, c.loop-line.invariant.counted, c.in-Some.ensures.within, c.requires.size)
