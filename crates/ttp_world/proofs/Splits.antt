-- Lists that a place splits by a test.
use Rattle.ttp_world.proofs.Words.{◌≡◌, ℕ, zero, suc, ◌-◌, ◌<◌, ◌≤◌, Bool, true, false, List, [], ◌∷◌, length, get_or}
use Rattle.ttp_world.proofs.Words.{ap, arith, IsNonDecreasingBy, leb-true, le-leb, Step}
use Rattle.ttp_world.proofs.Words.{first_step, step_is_by, SplitsAt}
use Rattle.std.proofs.lemmas.Bool.{lt-leb}
use Rattle.std.proofs.lemmas.List.{get_or_default}

-- without the first element, which passes or fails
pub splits-head_in : {X : Type 0} (p : X → Bool) (x : X) (xs : List X) (place : ℕ) → SplitsAt p (x ∷ xs) (suc place)
    → p x ≡ true
splits-head_in p x xs place splits = splits.0 zero x (omega arith) (omega arith)

pub splits-head_out : {X : Type 0} (p : X → Bool) (x : X) (xs : List X) → SplitsAt p (x ∷ xs) zero → p x ≡ false
splits-head_out p x xs splits = splits.1 zero x (omega arith) (omega arith)

pub splits-tail_in : {X : Type 0} (p : X → Bool) (x : X) (xs : List X) (place : ℕ) → SplitsAt p (x ∷ xs) (suc place)
    → SplitsAt p xs place
splits-tail_in p x xs place splits = (
  λ k d low high. splits.0 (suc k) d (omega arith) (omega arith),
  λ k d low high. splits.1 (suc k) d (omega arith) (omega arith),
)

pub splits-tail_out : {X : Type 0} (p : X → Bool) (x : X) (xs : List X) → SplitsAt p (x ∷ xs) zero → SplitsAt p xs zero
splits-tail_out p x xs splits =
    (λ k d low high. absurd (omega arith), λ k d low high. splits.1 (suc k) d (omega arith) (omega arith))

-- sorted steps are split by a key where the step before is not above it, and the one behind is
pub splits-step : (steps : List Step) (place key : ℕ) → IsNonDecreasingBy (λ step. step.key) steps
    → place ≤ length steps → (1 ≤ place → (get_or steps (place - 1) first_step).key ≤ key)
    → (place < length steps → key < (get_or steps place first_step).key) → SplitsAt (step_is_by key) steps place
splits-step steps place key rising within below above = (
  λ k d low high.
      let last = ap (λ (step : Step). step.key) (get_or_default steps (place - 1) d first_step (omega arith)) in
      le-leb (get_or steps k d).key key
      (omega (arith, last, below (omega arith), rising k (place - 1) d (omega arith) (omega arith))),
  λ k d low high.
      let first = ap (λ (step : Step). step.key) (get_or_default steps place d first_step (omega arith)) in
      lt-leb (get_or steps k d).key key (omega (arith, first, above (omega arith), rising place k d low high)),
)

-- a key behind splits them at the same place, where the step behind it is not at it or before it
pub splits-later : (steps : List Step) (place key later : ℕ) → IsNonDecreasingBy (λ step. step.key) steps
    → place ≤ length steps → SplitsAt (step_is_by key) steps place → key ≤ later
    → (place < length steps → later < (get_or steps place first_step).key) → SplitsAt (step_is_by later) steps place
splits-later steps place key later rising within splits behind above =
    splits-step steps place later rising within
    (λ some. let last = leb-true (get_or steps (place - 1) first_step).key key
    (splits.0 (place - 1) first_step (omega arith) (omega arith)) in omega (arith, last, behind)) above
