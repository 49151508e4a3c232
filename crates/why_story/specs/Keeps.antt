-- The pass in which entries are kept.
use Rattle.std.specs.Prelude.{◌≡◌, ℕ, List, ◌++◌}
use Rattle.causes.specs.Story.{kept_of_told}
use Rattle.causes.specs.declared.cause.Spot.{Spot}
use Rattle.causes.specs.declared.cause.Told.{Told}
use Rattle.why_story.specs.Marks.{AreMarked}
use Rattle.why_story.specs.declared.keep.Kept.{Kept}

-- Of some entries those are kept that are reached from marked ones by what leads back: what was kept before and what
-- these and older ones would add is what is kept now and what is left of them and older ones would add.
pub record Keeps (count : ℕ) (leading : List Spot) (before : List Told)
    (marked : List Spot) (told left : List Told) (now : Kept)
    : Type 0 where
  pub marked_now : List Spot
  pub marks : AreMarked count marked_now now.marks
  pub kept : (older : List Told)
      → before ++ kept_of_told leading marked (told ++ older) ≡ now.told
      ++ kept_of_told leading marked_now (left ++ older)
