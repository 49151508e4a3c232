-- Ranges, told value by value, and where two of them differ.
use Rattle.std.specs.Prelude.{◌≡◌, suc, ℤ, ◌-ℤ◌, Bool, false, ◌&&◌, List, [], ◌∷◌, map, unsigned_abs}
use Rattle.std.specs.Str.{bytes_eq}
use Rattle.clock_margins.specs.Outcomes.{ValueTold}
use Rattle.clock_margins.specs.Ranges.{Range, is_same_outcome}
use Rattle.clock_margins.specs.Sweeps.{values_from}

-- the values from one to another
abbrev pub values_between : ℤ → ℤ → List ℤ
values_between from to = values_from from (suc (unsigned_abs (to -ℤ from)))

-- what a range says of one of its values
abbrev pub told_as : Range → ℤ → ValueTold
told_as range value = record { value = value; test = range.test; outcome = range.outcome }

-- what it says of all of them, in ascending order
abbrev pub told_in_range : Range → List ValueTold
told_in_range range = map (told_as range) (values_between range.from range.to)

-- two ranges say the same
abbrev pub say_the_same : Range → Range → Bool
say_the_same one other = bytes_eq one.test other.test && is_same_outcome one.outcome other.outcome

-- no two ranges that follow each other do
abbrev pub AreApart : List Range → Type 0
AreApart [] = Unit {0}
AreApart (range ∷ []) = Unit {0}
AreApart (range ∷ next ∷ ranges) = (say_the_same range next ≡ false) × AreApart (next ∷ ranges)
