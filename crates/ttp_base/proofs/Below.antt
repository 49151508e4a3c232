-- The numbers below a number, one after another.
use Rattle.std.proofs.Common.{◌≡◌, ℕ, zero, suc, ◌+◌, ◌<◌, ◌≤◌, Bool, true, ◌&&◌, List, [], ◌∷◌, ◌++◌, refl, ap, sym}
use Rattle.std.proofs.Common.{◌∙◌, arith}
use Rattle.std.proofs.Common.{add-one, append_assoc, inl, inr, subst}
use Rattle.std.specs.Prelude.{map}
use Rattle.std.specs.List.{flat_map, list_all, range_with_len, AllByRecursion}
use Rattle.std.proofs.lemmas.List.{append-nil, map-append, map-id}
use Rattle.std.proofs.Math.Nat.{eq-or-lt_of_le}
use Rattle.std.proofs.lemmas.List.Concat.{flat_map-append}
use Rattle.std.proofs.lemmas.List.FromFn.{get_or-range_with_len, length-range_with_len, map-range_with_len_more}
use Rattle.std.proofs.lemmas.List.Sums.{AllPass-from_list_all}
use Rattle.ttp_base.specs.NodeSet.{below}

-- Each is below it.

range_with_len-lt : (a n m : ℕ) → a + n ≤ m → AllByRecursion (λ k. k < m) (range_with_len a n)
range_with_len-lt a zero m few = tt
range_with_len-lt a (suc n) m few = (omega arith, range_with_len-lt (a + 1) n m (omega arith))

pub below-lt : (n : ℕ) → AllByRecursion (λ k. k < n) (below n)
below-lt n = range_with_len-lt 0 n n (omega arith)

-- Functions that agree below n.

map_agree-range : {X : Type 0} (f g : ℕ → X) (a n : ℕ) → ((k : ℕ) → k < a + n → f k ≡ g k)
    → map f (range_with_len a n) ≡ map g (range_with_len a n)
map_agree-range f g a zero agree = refl
map_agree-range f g a (suc n) agree =
    let rest = map_agree-range f g (a + 1) n (λ k less. agree k (omega arith)) in
    λ i. agree a (omega arith) i ∷ rest i

pub map_agree-below : {X : Type 0} (f g : ℕ → X) (n : ℕ) → ((k : ℕ) → k < n → f k ≡ g k)
    → map f (below n) ≡ map g (below n)
map_agree-below f g n agree = map_agree-range f g 0 n (λ k less. agree k (omega arith))

flat_map_agree-range : {X : Type 0} (f g : ℕ → List X) (a n : ℕ) → ((k : ℕ) → k < a + n → f k ≡ g k)
    → flat_map f (range_with_len a n) ≡ flat_map g (range_with_len a n)
flat_map_agree-range f g a zero agree = refl
flat_map_agree-range f g a (suc n) agree =
    let rest = flat_map_agree-range f g (a + 1) n (λ k less. agree k (omega arith)) in
    λ i. agree a (omega arith) i ++ rest i

pub flat_map_agree-below : {X : Type 0} (f g : ℕ → List X) (n : ℕ) → ((k : ℕ) → k < n → f k ≡ g k)
    → flat_map f (below n) ≡ flat_map g (below n)
flat_map_agree-below f g n agree = flat_map_agree-range f g 0 n (λ k less. agree k (omega arith))

-- what holds of a function below n holds of its values there
pub map_each-below : {X : Type 0} (P : X → Type 0) (f : ℕ → X) (n : ℕ) → ((k : ℕ) → k < n → P (f k))
    → AllByRecursion P (map f (below n))
map_each-below P f n each = on (below n) (below-lt n)
  where
    on : (ks : List ℕ) → AllByRecursion (λ k. k < n) ks → AllByRecursion P (map f ks)
    on [] within = tt
    on (k ∷ ks) within = (each k within.0, on ks within.1)

-- Tests of the numbers below a number.

all-range : (p : ℕ → Bool) (a n : ℕ) → ((k : ℕ) → a ≤ k → k < a + n → p k ≡ true)
    → list_all p (range_with_len a n) ≡ true
all-range p a zero each = refl
all-range p a (suc n) each =
    ap (λ b. b && list_all p (range_with_len (a + 1) n)) (each a (omega arith) (omega arith))
    ∙ all-range p (a + 1) n (λ k from to. each k (omega arith) (omega arith))

-- where each passes, all do
pub all-below : (p : ℕ → Bool) (n : ℕ) → ((k : ℕ) → k < n → p k ≡ true) → list_all p (below n) ≡ true
all-below p n each = all-range p 0 n (λ k from to. each k (omega arith))

-- where all pass, each does
pub each-below : (p : ℕ → Bool) (n k : ℕ) → list_all p (below n) ≡ true → k < n → p k ≡ true
each-below p n k all less =
    ap p (sym (get_or-range_with_len 0 n k 0 less ∙ omega arith))
    ∙ AllPass-from_list_all p (below n) all k 0 (omega (arith, length-range_with_len 0 n))

-- One number more.

pub below-next : (n : ℕ) → below (n + 1) ≡ below n ++ n ∷ []
below-next n =
    sym (map-id (below (n + 1))) ∙ map-range_with_len_more (λ k. k) 0 n n (omega arith)
    ∙ ap (λ xs. xs ++ n ∷ []) (map-id (below n))

pub flat_map-next : {X : Type 0} (f : ℕ → List X) (n : ℕ) → flat_map f (below (n + 1)) ≡ flat_map f (below n) ++ f n
flat_map-next f n =
    ap (flat_map f) (below-next n) ∙ flat_map-append f (below n) (n ∷ [])
    ∙ ap (λ ys. flat_map f (below n) ++ ys) (append-nil (f n))

pub map-next : {X : Type 0} (f : ℕ → X) (n : ℕ) → map f (below (n + 1)) ≡ map f (below n) ++ f n ∷ []
map-next f n = ap (map f) (below-next n) ∙ map-append f (below n) (n ∷ [])

-- The numbers below n are those below k, k itself, and more.

below-split : (k n : ℕ) → k < n → (rest : List ℕ) × (below n ≡ below k ++ k ∷ rest)
below-split k zero less = absurd (omega arith)
below-split k (suc n) less =
    let within : k ≤ n = omega arith in
    let next : below (suc n) ≡ below n ++ n ∷ [] =
    subst (λ m. below m ≡ below n ++ n ∷ []) (add-one n) (below-next n) in
    elim (eq-or-lt_of_le within) [
      | inl same ↦ ([], rw same next)
      | inr lower ↦
          let split = below-split k n lower in
          (split.0 ++ n ∷ [], next ∙ rw (split.1, append_assoc) refl)
    ]

pub map-split : {X : Type 0} (f : ℕ → X) (k n : ℕ) → k < n
    → (rest : List X) × (map f (below n) ≡ map f (below k) ++ f k ∷ rest)
map-split f k n less =
    let split = below-split k n less in
    (map f split.0, ap (map f) split.1 ∙ map-append f (below k) (k ∷ split.0))

pub flat_map-split : {X : Type 0} (f : ℕ → List X) (k n : ℕ) → k < n
    → (rest : List X) × (flat_map f (below n) ≡ flat_map f (below k) ++ (f k ++ rest))
flat_map-split f k n less =
    let split = below-split k n less in
    (flat_map f split.0, ap (flat_map f) split.1 ∙ flat_map-append f (below k) (k ∷ split.0))
