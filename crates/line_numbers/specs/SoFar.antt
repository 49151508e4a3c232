-- What is kept of the lines that were read.
use Rattle.std.specs.Prelude.{◌≡◌, ℕ, ◌<◌, List, [], ◌∷◌, ◌++◌, vec_len, slice_index, if◌then◌else◌}
use Rattle.line_numbers.specs.declared.numbers.SoFar.{SoFar}
use Rattle.line_numbers.specs.Numbers.{switches_on, sets_drift, states_event}

-- a line of this number with these words was taken
pub record KeepsLine (number : ℕ) (words : List (List ℕ)) (old new : SoFar) : Type 0 where
  pub on_count : vec_len new.on ≡ vec_len old.on
  pub drift_count : vec_len new.drift ≡ vec_len old.drift
  pub on : (k : ℕ) → k < vec_len old.on
      → slice_index new.on.items k ≡ (if switches_on k words then number else slice_index old.on.items k)
  pub drift : (k : ℕ) → k < vec_len old.drift
      → slice_index new.drift.items k ≡ (if sets_drift k words then number else slice_index old.drift.items k)
  pub events : new.events ≡ old.events ++ (if states_event words then number ∷ [] else [])

-- nothing was kept yet, for so many nodes
pub record IsEmpty (nodes : ℕ) (so_far : SoFar) : Type 0 where
  pub on_count : vec_len so_far.on ≡ nodes
  pub drift_count : vec_len so_far.drift ≡ nodes
  pub on : (k : ℕ) → slice_index so_far.on.items k ≡ 0
  pub drift : (k : ℕ) → slice_index so_far.drift.items k ≡ 0
  pub events : so_far.events ≡ []
