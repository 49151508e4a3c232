use Rattle.std.proofs.Common.{◌≡◌, ℕ, List, take, filter}
use Rattle.causes.specs.Story.{has_spot}
use Rattle.causes.specs.declared.cause.Spot.{Spot}
use Rattle.why_story.specs.Marks.{AreMarked, AreInSlots}
use Rattle.why_story.proofs.keep.named.Given as goal

-- those so far
abbrev pub invariant-loop-entry : goal.invariant-loop-entry
invariant-loop-entry l = (count : ℕ) (leading : List Spot) → AreMarked count leading l.back → AreInSlots count leading
    → l.named ≡ filter (has_spot leading) (take l.entry-index l.entries)
