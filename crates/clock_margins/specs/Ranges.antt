-- The ranges of values that cost the same, each as long as it can be.
use Rattle.std.specs.Prelude.{ℤ, Bool, true, false, ◌&&◌, List, [], ◌∷◌, if◌then◌else◌}
use Rattle.std.specs.Str.{bytes_eq}
use Rattle.std.specs.Prelude.{ℕ}
use Rattle.clock_margins.specs.declared.margin.Outcome.{Outcome}
use Rattle.clock_margins.specs.Outcomes.{ValueTold}

-- values from one to another, and what is told of each of them
pub record Range : Type 0 where
  pub from : ℤ
  pub to : ℤ
  pub test : List ℕ
  pub outcome : Outcome

-- Whether two values cost the same: in all that is told of them.

abbrev pub is_same_truth : Bool → Bool → Bool
is_same_truth true other = other
is_same_truth false true = false
is_same_truth false false = true

-- two lists have equal memberships in one order
abbrev pub are_same_sets : List (List ℕ) → List (List ℕ) → Bool
are_same_sets [] [] = true
are_same_sets (members ∷ sets) (m ∷ more) = bytes_eq members m && are_same_sets sets more
are_same_sets _ _ = false

abbrev pub is_same_outcome : Outcome → Outcome → Bool
is_same_outcome one other =
    bytes_eq one.left other.left && (bytes_eq one.hurt other.hurt
    && (is_same_truth one.split other.split && are_same_sets one.end other.end))

-- a value is told as those of a range
abbrev pub is_told_as : ValueTold → Range → Bool
is_told_as told range = bytes_eq told.test range.test && is_same_outcome told.outcome range.outcome

-- Ranges, in ascending order.

-- one value alone
abbrev pub range_alone : ValueTold → Range
range_alone told =
    record { from = told.value; to = told.value; test = told.test; outcome = told.outcome }

-- those of a value and of all behind it: it joins the first range behind it where it is told as that, and else is one
-- alone
abbrev pub range_before : ValueTold → List Range → List Range
range_before told [] = range_alone told ∷ []
range_before told (range ∷ ranges) =
    if is_told_as told range then record range { from = told.value } ∷ ranges
    else range_alone told ∷ range ∷ ranges

-- the ranges of values in ascending order
abbrev pub ranges_of : List ValueTold → List Range
ranges_of [] = []
ranges_of (told ∷ more) = range_before told (ranges_of more)
