-- What measures stand for. Contracts see them as the list of the last four notes, the newest first.
use Rattle.std.specs.Prelude.{◌≡◌, ℕ, ◌≤◌, ◌^◌, ℤ, pos, neg_ℤ, ◌≤ℤ◌, int_le, Bool, ◌&&◌, List, length, take}
use Rattle.std.specs.Prelude.{count_by}
use Rattle.ttp_world.specs.Clock.{fta}

-- so many notes make an average
abbrev pub kept_notes : ℕ
kept_notes = 4

-- a deviation that can be noted lies within 2^60 of 0
abbrev pub most_deviation : ℕ
most_deviation = 2 ^ 60

-- a number is such a deviation
abbrev pub IsDeviation : ℤ → Type 0
IsDeviation z = (neg_ℤ (pos most_deviation) ≤ℤ z) × (z ≤ℤ pos most_deviation)

-- four places of which so many hold a note
pub record AreKept (count : ℕ) (newest second third fourth : ℤ) : Type 0 where
  pub few : count ≤ kept_notes
  pub first_within : IsDeviation newest
  pub second_within : IsDeviation second
  pub third_within : IsDeviation third
  pub fourth_within : IsDeviation fourth

-- this is the average of all notes, whose last are these
abbrev pub IsAverage : List ℤ → ℤ → Type 0
IsAverage measures average = (notes : List ℤ) → measures ≡ take kept_notes notes → average ≡ fta notes

-- a value lies between two numbers, both included
abbrev pub is_value_between : ℤ → ℤ → ℤ → Bool
is_value_between low high z = int_le low z && int_le z high

-- where there are four and three of them lie between two numbers, so does this
abbrev pub LiesBetween : List ℤ → ℤ → Type 0
LiesBetween measures average =
    (low high : ℤ) → kept_notes ≤ length measures → 3 ≤ count_by (is_value_between low high) measures
    → (low ≤ℤ average) × (average ≤ℤ high)
