-- A part of a cluster's nodes: a run of node numbers.
use Rattle.std.specs.Prelude.{◌≡◌, ℕ, ◌+◌, List, slice_get, Some}

-- a claim holds of each of a list by its node number, where the first is of this node
pub record EachFrom {X : Type 0} (first : ℕ) (P : ℕ → X → Type 0) (xs : List X) : Type 0 where
  pub each : (j : ℕ) (x : X) → slice_get xs j ≡ Some x → P (first + j) x
