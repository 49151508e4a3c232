use Rattle.std.proofs.Common.{ℕ, List, take, ◌++◌}
use Rattle.causes.specs.declared.cause.Spot.{Spot}
use Rattle.why_story.specs.Marks.{AreMarked}
use Rattle.why_story.proofs.marks.Marks.mark_all.Given as goal

-- those so far are marked
abbrev pub invariant-loop-spot : goal.invariant-loop-spot
invariant-loop-spot l = (count : ℕ) (marked : List Spot) → AreMarked count marked l.initial.self
    → AreMarked count (take l.spot-index l.spots ++ marked) l.self
