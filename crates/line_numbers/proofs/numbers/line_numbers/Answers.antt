use Rattle.std.proofs.Common.{arith, refl}
use Rattle.line_numbers.proofs.Reading.{IsReading-none, IsReading-more, line_numbers_in-end}
use Rattle.line_numbers.proofs.numbers.line_numbers.Goals as goal

pub loop-cut-init : goal.loop-cut-init
loop-cut-init c = IsReading-none c.args.nodes c.args.bytes.now _ c.in_ok-so_far.ensures

pub loop-cut-preserved : goal.loop-cut-preserved
loop-cut-preserved c =
    IsReading-more _ _ _ _ _ _ _ _ c.loop-cut.invariant c.in-Some.ensures.some
    c.in-Some.ensures.shorter c.in_ok-take.ensures

pub overflow_add-number : goal.overflow_add-number
overflow_add-number c = omega (arith, c.loop-cut.invariant.count, c.requires, c.in-Some.ensures.shorter)

pub returns : goal.returns
returns c =
    line_numbers_in-end c.args.nodes c.args.bytes.now c.loop-cut.so_far
    c.loop-cut.number c.loop-cut.rest.now c.from_vec.result
    c.from_vec-2.result c.loop-cut.so_far.events c.loop-cut.invariant c.in_default.ensures.none c.from_vec.ensures
    c.from_vec-2.ensures refl
