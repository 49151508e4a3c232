-- What tests of lists tell.
use Rattle.safety_laws.proofs.BackWords.{◌≡◌, ℕ, ◌+◌, ◌<◌, ◌≤◌, Bool, true, false, cond}
use Rattle.safety_laws.proofs.BackWords.{◌||◌, List, [], ◌∷◌, refl, ap, ◌∙◌, ◌⊎◌}
use Rattle.safety_laws.proofs.BackWords.{inl, inr, arith, AllByRecursion, list_any}
use Rattle.safety_laws.proofs.BackWords.{or_parts, both_ways, or_cases, below}
use Rattle.std.specs.Prelude.{count_by}
use Rattle.std.proofs.lemmas.List.Sums.{sum_by-cons}
use Rattle.ttp_base.proofs.NodeSets.{has_node-below}
use Rattle.safety_laws.proofs.Losses.{each-member}

pub any-none : {X : Type 0} (p : X → Bool) (xs : List X) → list_any p xs ≡ false → AllByRecursion (λ x. p x ≡ false) xs
any-none p [] none = tt
any-none p (x ∷ xs) none =
    let parts = or_parts _ _ none in
    (parts.0, any-none p xs parts.1)

-- where none of the nodes passes, this one does not
pub none-below : (p : ℕ → Bool) (n k : ℕ) → list_any p (below n) ≡ false → k < n → p k ≡ false
none-below p n k none less =
    each-member (λ k. p k ≡ false) (below n) k (any-none p (below n) none) (has_node-below n k less)

-- what passes a stricter test passes
pub none-stricter : {X : Type 0} (p q : X → Bool) (xs : List X) → ((x : X) → q x ≡ true → p x ≡ true)
    → list_any p xs ≡ false → list_any q xs ≡ false
none-stricter p q [] gives none = refl
none-stricter p q (x ∷ xs) gives none =
    let parts = or_parts _ _ none in
    by (q x) refl (none-stricter p q xs gives parts.1) parts.0
  where
    by : (b : Bool) → q x ≡ b → list_any q xs ≡ false → p x ≡ false → (b || list_any q xs) ≡ false
    by true is rest here = absurd (both_ways _ here (gives x is))
    by false is rest here = rest

-- Where one alone passes, two that pass are that one.

count-cons : {X : Type 0} (p : X → Bool) (x : X) (xs : List X) (b : Bool) → p x ≡ b
    → count_by p (x ∷ xs) ≡ cond b 1 0 + count_by p xs
count-cons p x xs b is = sum_by-cons (λ y. cond (p y) 1 0) x xs ∙ ap (λ b. cond b 1 0 + count_by p xs) is

some-counted : {X : Type 0} (p q : X → Bool) (xs : List X) → ((x : X) → q x ≡ true → p x ≡ true) → list_any q xs ≡ true
    → 1 ≤ count_by p xs
some-counted p q [] gives has = absurd (both_ways _ refl has)
some-counted p q (x ∷ xs) gives has =
    by (p x) refl (or_cases _ _ has) (some-counted p q xs gives)
  where
    by : (b : Bool) → p x ≡ b → (q x ≡ true) ⊎ (list_any q xs ≡ true) → (list_any q xs ≡ true → 1 ≤ count_by p xs)
        → 1 ≤ count_by p (x ∷ xs)
    by true is found rest = let counted = count-cons p x xs true is in omega (arith, counted)
    by false is (inl here) rest = absurd (both_ways _ is (gives x here))
    by false is (inr there) rest = let counted = count-cons p x xs false is in omega (arith, counted, rest there)

pub one-of-both : {X : Type 0} (p q r : X → Bool) (xs : List X) → ((x : X) → q x ≡ true → p x ≡ true)
    → ((x : X) → r x ≡ true → p x ≡ true) → count_by p xs ≡ 1 → list_any q xs ≡ true → list_any r xs ≡ true
    → (x : X) × ((q x ≡ true) × (r x ≡ true))
one-of-both p q r [] first second one has also = absurd (both_ways _ refl has)
one-of-both {X = X} p q r (x ∷ xs) first second one has also =
    by (p x) refl (or_cases _ _ has) (or_cases _ _ also) (one-of-both p q r xs first second)
  where
    by : (b : Bool) → p x ≡ b → (q x ≡ true) ⊎ (list_any q xs ≡ true) → (r x ≡ true) ⊎ (list_any r xs ≡ true)
        → (count_by p xs ≡ 1 → list_any q xs ≡ true → list_any r xs ≡ true → (x : X) × ((q x ≡ true) × (r x ≡ true)))
        → (x : X) × ((q x ≡ true) × (r x ≡ true))
    by b is (inl here) (inl too) rest = (x, (here, too))
    by b is (inl here) (inr there) rest =
        let counted = count-cons p x xs true (first x here) in
        absurd (omega (arith, one, counted, some-counted p r xs second there))
    by b is (inr there) (inl here) rest =
        let counted = count-cons p x xs true (second x here) in
        absurd (omega (arith, one, counted, some-counted p q xs first there))
    by true is (inr there) (inr far) rest =
        let counted = count-cons p x xs true is in
        absurd (omega (arith, one, counted, some-counted p q xs first there))
    by false is (inr there) (inr far) rest =
        let counted = count-cons p x xs false is in
        rest (omega (arith, one, counted)) there far
