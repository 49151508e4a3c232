use Rattle.std.proofs.Common.{sym, ◌∙◌, arith}
use Rattle.causes.specs.Story.{has_spot}
use Rattle.why_story.proofs.Marked.{any-end, any-found, any-more}
use Rattle.why_story.proofs.marks.Marks.has_any.Goals as goal

pub returns-then-has : goal.returns-then-has
returns-then-has c = λ count marked are within.
    any-found (has_spot marked) c.args.spots.now c.loop-spot.spot-index _ (omega (arith, c.loop-spot-test.true))
    (sym (c.has.ensures.whole count marked are within) ∙ c.if-has.true)

pub loop-spot-preserved : goal.loop-spot-preserved
loop-spot-preserved c = λ count marked are within.
    any-more (has_spot marked) c.args.spots.now c.loop-spot.spot-index _ (omega (arith, c.loop-spot-test.true))
    (c.loop-spot.invariant count marked are within)
    (sym (c.has.ensures.whole count marked are within) ∙ c.if-has.false)

pub returns : goal.returns
returns c = λ count marked are within.
    any-end (has_spot marked) c.args.spots.now c.loop-spot.spot-index (omega (arith, c.loop-spot-test.false))
    (c.loop-spot.invariant count marked are within)
