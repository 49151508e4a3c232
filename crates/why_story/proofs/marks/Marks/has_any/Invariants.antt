use Rattle.std.proofs.Common.{◌≡◌, ℕ, List, take, false}
use Rattle.std.specs.List.{list_any}
use Rattle.causes.specs.Story.{has_spot}
use Rattle.causes.specs.declared.cause.Spot.{Spot}
use Rattle.why_story.specs.Marks.{AreMarked, AreInSlots}
use Rattle.why_story.proofs.marks.Marks.has_any.Given as goal

-- none so far is marked
abbrev pub invariant-loop-spot : goal.invariant-loop-spot
invariant-loop-spot l = (count : ℕ) (marked : List Spot) → AreMarked count marked l.self → AreInSlots count marked
    → list_any (has_spot marked) (take l.spot-index l.spots) ≡ false
