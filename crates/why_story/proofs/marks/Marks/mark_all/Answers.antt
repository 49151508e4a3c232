use Rattle.std.proofs.Common.{◌++◌, take, arith}
use Rattle.why_story.proofs.Marked.{AreMarked-end, AreMarked-step}
use Rattle.why_story.proofs.marks.Marks.mark_all.Goals as goal

pub loop-spot-preserved : goal.loop-spot-preserved
loop-spot-preserved c = λ count marked are.
    AreMarked-step count c.args.spots.now marked c.loop-spot.spot-index _ _ (omega (arith, c.loop-spot-test.true))
    (c.mark.ensures count (take c.loop-spot.spot-index c.args.spots.now ++ marked)
    (c.loop-spot.invariant count marked are))

pub returns : goal.returns
returns c = λ count marked are.
    AreMarked-end count c.args.spots.now marked c.loop-spot.spot-index _ (omega (arith, c.loop-spot-test.false))
    (c.loop-spot.invariant count marked are)
