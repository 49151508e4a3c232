-- A test of all members of a set, the least first.
use Rattle.std.proofs.Common.{◌≡◌, ℕ, suc, ◌<◌, ◌≤◌, Bool, true, false, cond, not, ◌&&◌, List, [], ◌∷◌, length, Some}
use Rattle.std.proofs.Common.{None, refl, ap, sym, ◌∙◌, arith}
use Rattle.std.specs.Prelude.{◌==◌}
use Rattle.std.specs.List.{list_all, slice_get}
use Rattle.std.proofs.lemmas.Bool.{eq-eqb, eqb-true}
use Rattle.std.proofs.lemmas.Option.{same_Some, none-some}
use Rattle.ttp_base.specs.NodeSet.{without_node}

-- without a number that passes, as many of the others pass
list_all-without_step : (p : ℕ → Bool) (k x : ℕ) (xs : List ℕ) (b : Bool) → (x == k) ≡ b → p k ≡ true
    → list_all p (without_node xs k) ≡ list_all p xs
    → list_all p (cond (not b) (x ∷ without_node xs k) (without_node xs k)) ≡ (p x && list_all p xs)
list_all-without_step p k x xs true same passes rest =
    let here : p x ≡ true = ap p (eqb-true x k same) ∙ passes in
    rw here rest
list_all-without_step p k x xs false other passes rest = ap (λ b. p x && b) rest

list_all-without_passing : (p : ℕ → Bool) (k : ℕ) (xs : List ℕ) → p k ≡ true
    → list_all p (without_node xs k) ≡ list_all p xs
list_all-without_passing p k [] passes = refl
list_all-without_passing p k (x ∷ xs) passes =
    list_all-without_step p k x xs (x == k) refl passes (list_all-without_passing p k xs passes)

length-without_step : (x m : ℕ) (xs : List ℕ) (b : Bool) → length xs ≤ m → length (cond (not b) (x ∷ xs) xs) ≤ suc m
length-without_step x m xs true fits = omega arith
length-without_step x m xs false fits = omega arith

length-without : (k : ℕ) (xs : List ℕ) → length (without_node xs k) ≤ length xs
length-without k [] = omega arith
length-without k (x ∷ xs) = length-without_step x (length xs) (without_node xs k) (x == k) (length-without k xs)

-- the first of a list passes: the others settle the answer
pub list_all-without : (p : ℕ → Bool) (s : List ℕ) (k : ℕ) → slice_get s 0 ≡ Some k → p k ≡ true
    → list_all p (without_node s k) ≡ list_all p s
list_all-without p [] k is passes = absurd (none-some k is)
list_all-without p (x ∷ xs) k is passes = list_all-without_passing p k (x ∷ xs) passes

-- without its first number a list is shorter
pub length-without_first : (s : List ℕ) (k : ℕ) → slice_get s 0 ≡ Some k → length (without_node s k) < length s
length-without_first [] k is = absurd (none-some k is)
length-without_first (x ∷ xs) k is =
    let here : (x == k) ≡ true = eq-eqb x k (same_Some x k is) in
    rw here (omega (arith, length-without k xs))

-- a list with no first number is empty
pub nil_from_first : (s : List ℕ) → slice_get s 0 ≡ None → s ≡ []
nil_from_first [] is = refl
nil_from_first (x ∷ xs) is = absurd (none-some x (sym is))
