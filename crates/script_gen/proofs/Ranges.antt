-- Tests and lists over the numbers of a range, of which one alone tells something.
use Rattle.script_gen.proofs.Words.{◌≡◌, ℕ, zero, suc, ◌+◌, ◌*◌, ◌<◌, ◌≤◌, Bool, true, false, cond, ◌||◌, List, [], ◌∷◌}
use Rattle.script_gen.proofs.Words.{◌++◌, length, Option, refl, ap, ◌∙◌, inl, inr, arith, length-append, AllByRecursion}
use Rattle.script_gen.proofs.Words.{filter, filter_map, flat_map, list_any, range_with_len, cases_eq, append-nil}
use Rattle.script_gen.proofs.Words.{filter_map-append, list_any-append, below, each-append}
use Rattle.ttp_base.proofs.Below.{below-lt}
use Rattle.ttp_world.proofs.MemberSets.{or-false}
use Rattle.ttp_world.proofs.RangeFacts.{none-passes as any-past}

-- Facts of all elements.

pub each-flat_map : {X : Type 0} (P : X → Type 0) (f : ℕ → List X) (n : ℕ)
    → ((k : ℕ) → k < n → AllByRecursion P (f k)) → AllByRecursion P (flat_map f (below n))
each-flat_map P f n each = on (below n) (below-lt n)
  where
    on : (ks : List ℕ) → AllByRecursion (λ k. k < n) ks → AllByRecursion P (flat_map f ks)
    on [] within = tt
    on (k ∷ ks) within = each-append P (f k) (flat_map f ks) (each k within.0) (on ks within.1)

pub any-each : {X : Type 0} (p : X → Bool) (xs : List X) → AllByRecursion (λ x. p x ≡ false) xs → list_any p xs ≡ false
any-each p [] each = refl
any-each p (x ∷ xs) each = ap (λ b. b || list_any p xs) each.0 ∙ any-each p xs each.1

-- One after another.

pub filter_map-flat_map : {X Y : Type 0} (h : X → Option Y) (f : ℕ → List X) (ks : List ℕ)
    → filter_map h (flat_map f ks) ≡ flat_map (λ k. filter_map h (f k)) ks
filter_map-flat_map h f [] = refl
filter_map-flat_map h f (k ∷ ks) =
    filter_map-append h (f k) (flat_map f ks) ∙ ap (λ rest. filter_map h (f k) ++ rest) (filter_map-flat_map h f ks)

pub any-flat_map : {X : Type 0} (p : X → Bool) (f : ℕ → List X) (ks : List ℕ)
    → list_any p (flat_map f ks) ≡ list_any (λ k. list_any p (f k)) ks
any-flat_map p f [] = refl
any-flat_map p f (k ∷ ks) =
    list_any-append p (f k) (flat_map f ks) ∙ ap (λ rest. list_any p (f k) || rest) (any-flat_map p f ks)

-- One number of a range.

flat_map-past : {X : Type 0} (f : ℕ → List X) (a n : ℕ) → ((k : ℕ) → a ≤ k → f k ≡ [])
    → flat_map f (range_with_len a n) ≡ []
flat_map-past f a zero none = refl
flat_map-past f a (suc n) none =
    (λ i. none a (omega arith) i ++ flat_map f (range_with_len (a + 1) n))
    ∙ flat_map-past f (a + 1) n (λ k from. none k (omega arith))

flat_map-range : {X : Type 0} (f : ℕ → List X) (a n t : ℕ) → ((k : ℕ) → (k ≡ t → ⊥) → f k ≡ []) → a ≤ t → t < a + n
    → flat_map f (range_with_len a n) ≡ f t
flat_map-range f a zero t others from to = absurd (omega arith)
flat_map-range f a (suc n) t others from to = elim (cases_eq a t) [
  | inl same ↦
      ap (λ rest. f a ++ rest) (flat_map-past f (a + 1) n (λ k later. others k (λ is. omega arith)))
      ∙ append-nil (f a) ∙ ap f same
  | inr other ↦
      ap (λ first. first ++ flat_map f (range_with_len (a + 1) n)) (others a other)
      ∙ flat_map-range f (a + 1) n t others (omega arith) (omega arith)
]

-- where the others give nothing, what one gives is all
pub flat_map-one : {X : Type 0} (f : ℕ → List X) (n t : ℕ) → ((k : ℕ) → (k ≡ t → ⊥) → f k ≡ []) → t < n
    → flat_map f (below n) ≡ f t
flat_map-one f n t others less = flat_map-range f 0 n t others (omega arith) (omega arith)

-- and where it is not among them there is nothing
pub flat_map-most : {X : Type 0} (f : ℕ → List X) (n t m : ℕ) → ((k : ℕ) → (k ≡ t → ⊥) → f k ≡ []) → length (f t) ≤ m
    → length (flat_map f (below n)) ≤ m
flat_map-most f n t m others few = on 0 n
  where
    on : (a n : ℕ) → length (flat_map f (range_with_len a n)) ≤ m
    on a zero = omega arith
    on a (suc n) = elim (cases_eq a t) [
      | inl same ↦
          let rest = flat_map-past f (a + 1) n (λ k later. others k (λ is. omega arith)) in
          let all : flat_map f (range_with_len a (suc n)) ≡ f t =
          ap (λ rest. f a ++ rest) rest ∙ append-nil (f a) ∙ ap f same in
          omega (arith, ap length all, few)
      | inr other ↦
          let all : flat_map f (range_with_len a (suc n)) ≡ flat_map f (range_with_len (a + 1) n) =
          ap (λ first. first ++ flat_map f (range_with_len (a + 1) n)) (others a other) in
          omega (arith, ap length all, on (a + 1) n)
    ]

pub any-none : (p : ℕ → Bool) (n : ℕ) → ((k : ℕ) → k < n → p k ≡ false) → list_any p (below n) ≡ false
any-none p n none = any-past p 0 n (λ k from to. none k (omega arith))

any-range : (p : ℕ → Bool) (a n t : ℕ) → ((k : ℕ) → (k ≡ t → ⊥) → p k ≡ false) → a ≤ t → t < a + n
    → list_any p (range_with_len a n) ≡ p t
any-range p a zero t others from to = absurd (omega arith)
any-range p a (suc n) t others from to = elim (cases_eq a t) [
  | inl same ↦
      ap (λ rest. p a || rest) (any-past p (a + 1) n (λ k later less. others k (λ is. omega arith)))
      ∙ or-false (p a) ∙ ap p same
  | inr other ↦
      ap (λ b. b || list_any p (range_with_len (a + 1) n)) (others a other)
      ∙ any-range p (a + 1) n t others (omega arith) (omega arith)
]

pub any-one : (p : ℕ → Bool) (n t : ℕ) → ((k : ℕ) → (k ≡ t → ⊥) → p k ≡ false) → t < n → list_any p (below n) ≡ p t
any-one p n t others less = any-range p 0 n t others (omega arith) (omega arith)

-- the one number that passes is all that a filter keeps
filter-past : (p : ℕ → Bool) (a n : ℕ) → ((k : ℕ) → a ≤ k → k < a + n → p k ≡ false)
    → filter p (range_with_len a n) ≡ []
filter-past p a zero fails = refl
filter-past p a (suc n) fails =
    ap (λ b. cond b (a ∷ filter p (range_with_len (a + 1) n)) (filter p (range_with_len (a + 1) n)))
    (fails a (omega arith) (omega arith))
    ∙ filter-past p (a + 1) n (λ k from to. fails k (omega arith) (omega arith))

filter-range : (p : ℕ → Bool) (a n t : ℕ) → p t ≡ true
    → ((k : ℕ) → k < a + n → (k ≡ t → ⊥) → p k ≡ false) → a ≤ t → t < a + n
    → filter p (range_with_len a n) ≡ t ∷ []
filter-range p a zero t passes others from to = absurd (omega arith)
filter-range p a (suc n) t passes others from to =
    let rest = filter p (range_with_len (a + 1) n) in
    elim (cases_eq a t) [
      | inl same ↦
          ap (λ b. cond b (a ∷ rest) rest) (ap p same ∙ passes)
          ∙ ap (λ ks. a ∷ ks)
          (filter-past p (a + 1) n (λ k later less. others k (omega arith) (λ is. omega arith)))
          ∙ ap (λ k. k ∷ []) same
      | inr other ↦
          ap (λ b. cond b (a ∷ rest) rest) (others a (omega arith) other)
          ∙ filter-range p (a + 1) n t passes (λ k less apart. others k (omega arith) apart) (omega arith)
          (omega arith)
    ]

pub filter-only : (p : ℕ → Bool) (n t : ℕ) → p t ≡ true → ((k : ℕ) → k < n → (k ≡ t → ⊥) → p k ≡ false) → t < n
    → filter p (below n) ≡ t ∷ []
filter-only p n t passes others less =
    filter-range p 0 n t passes (λ k small other. others k (omega arith) other) (omega arith) (omega arith)

-- Where none fails a test, none is found.

pub length-flat_map : {X : Type 0} (f : ℕ → List X) (m n : ℕ) → ((k : ℕ) → length (f k) ≤ m)
    → length (flat_map f (below n)) ≤ n * m
length-flat_map f m n few = on 0 n
  where
    on : (a n : ℕ) → length (flat_map f (range_with_len a n)) ≤ n * m
    on a zero = omega arith
    on a (suc n) = omega (arith, length-append (f a) (flat_map f (range_with_len (a + 1) n)), few a, on (a + 1) n)
