use Rattle.std.proofs.Common.{List, [], ◌∷◌, length}
use Rattle.std.specs.Vec.Iter.{into_iter_items}
use Rattle.causes.specs.declared.cause.Spot.{Spot}
use Rattle.why_story.specs.Keeps.{Keeps}
use Rattle.why_story.specs.Marks.{AreMarked, AreToldWithin, AreInSlots}
use Rattle.why_story.proofs.keep.kept_from.Given as goal

-- the others are left
abbrev pub invariant-loop-one : goal.invariant-loop-one
invariant-loop-one l = AreToldWithin l.slots (into_iter_items l.left)
    × ((leading : List Spot) → AreMarked l.slots leading l.back → AreInSlots l.slots leading
    → Keeps l.slots leading [] (l.fn.asked ∷ []) l.fn.told (into_iter_items l.left) l.kept)

abbrev pub decreases-loop-one : goal.decreases-loop-one
decreases-loop-one l = length (into_iter_items l.left)
