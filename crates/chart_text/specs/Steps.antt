-- How far the walks over a campaign have come, by what is left of it.
use Rattle.std.specs.Prelude.{◌≡◌, ℕ, ◌+◌, ◌<◌, ◌≤◌, ◌==◌, max, Bool, false}
use Rattle.std.specs.Prelude.{List, [], ◌∷◌, length, filter, count_by, get_or}
use Rattle.ttp_base.specs.NodeSet.{below}
use Rattle.whole_campaign.specs.Whole.{FaultTold}
use Rattle.chart_text.specs.Column.{faults_told_in}

-- A text in a room of so many bytes.
pub record Roomy : Type 0 where
  pub text : List ℕ
  pub room : ℕ

-- the longest of the lines of faults
abbrev pub longest_text : List FaultTold → ℕ
longest_text [] = 0
longest_text (fault ∷ faults) = max (length fault.text) (longest_text faults)

-- Marked slots: those with `true` at their place.

abbrev pub has_mark : List Bool → ℕ → Bool
has_mark marks t = get_or marks t false

abbrev pub marked_slots : List Bool → List ℕ
marked_slots marks = filter (has_mark marks) (below (length marks))

-- Counting.

-- of all items these are counted by their numbers, and those are left
abbrev pub AreFaultsCounted : {X : Type 0} → (X → ℕ) → List ℕ → List X → List X → Type 0
AreFaultsCounted number counts left all =
    (i : ℕ) → i < length counts
    → get_or counts i 0 + count_by (λ x. number x == i) left ≡ count_by (λ x. number x == i) all

-- of slot t and those behind it, these have the same faults
abbrev pub SameFrom : ℕ → List FaultTold → List FaultTold → Type 0
SameFrom t these those = (s : ℕ) → t ≤ s → faults_told_in s these ≡ faults_told_in s those
