-- Tests of the numbers below a number, and the first that passes.
use Rattle.hypothesis.proofs.Words.{◌≡◌, ℕ, zero, suc, ◌+◌, ◌-◌, ◌<◌, ◌≤◌, Bool, true, false, [], ◌∷◌, length, Some}
use Rattle.hypothesis.proofs.Words.{None, get_or, refl, ap, sym, subst, ◌∙◌, inl, inr, arith, and-false, cases_eq}
use Rattle.hypothesis.proofs.Words.{length-append, length-range_with_len, range_with_len, below}
use Rattle.std.proofs.lemmas.List.Elements.{All-filter, filter-append}
use Rattle.std.proofs.lemmas.List.FromFn.{get_or-range_with_len}
use Rattle.std.specs.List.{All, filter, list_all, find}
use Rattle.ttp_base.proofs.Below.{below-next}
use Rattle.ttp_world.proofs.RangeFacts.{none-range}

-- Where one fails, not all pass.

fails-range : (p : ℕ → Bool) (a n k : ℕ) → a ≤ k → k < a + n → p k ≡ false → list_all p (range_with_len a n) ≡ false
fails-range p a zero k from to fails = absurd (omega arith)
fails-range p a (suc n) k from to fails = elim (cases_eq a k) [
  | inl same ↦ rw (same, fails) refl
  | inr other ↦ rw (fails-range p (a + 1) n k (omega (arith, other)) (omega arith) fails) (and-false (p a))
]

pub one-fails : (p : ℕ → Bool) (n k : ℕ) → k < n → p k ≡ false → list_all p (below n) ≡ false
one-fails p n k less fails = fails-range p 0 n k (omega arith) (omega arith) fails

-- The first that passes.

pub none-below : (p : ℕ → Bool) (n : ℕ) → ((k : ℕ) → k < n → p k ≡ false) → find p (below n) ≡ None
none-below p n each = none-range p 0 n (λ k from to. each k (omega arith))

pub first-range : (p : ℕ → Bool) (a n k : ℕ) → a ≤ k → k < a + n → ((j : ℕ) → a ≤ j → j < k → p j ≡ false) → p k ≡ true
    → find p (range_with_len a n) ≡ Some k
first-range p a zero k from to before passes = absurd (omega arith)
first-range p a (suc n) k from to before passes = elim (cases_eq a k) [
  | inl same ↦ rw (same, passes) refl
  | inr other ↦
      rw (before a (omega arith) (omega (arith, other))) (first-range p (a + 1) n k (omega (arith, other)) (omega arith)
      (λ j above to'. before j (omega arith) to') passes)
]

pub first-below : (p : ℕ → Bool) (n k : ℕ) → k < n → ((j : ℕ) → j < k → p j ≡ false) → p k ≡ true
    → find p (below n) ≡ Some k
first-below p n k less before passes = first-range p 0 n k (omega arith) (omega arith) (λ j from to. before j to) passes

-- Those that pass are below the number.

pub small-sieve : (p : ℕ → Bool) (n m : ℕ) → n ≤ m → All (λ k. k < m) (filter p (below n))
small-sieve p n m few =
    All-filter p (λ k. k < m) (below n) (λ k d less. at k d (subst (λ size. k < size) (length-range_with_len 0 n) less))
  where
    at : (k d : ℕ) → k < n → get_or (below n) k d < m
    at k d less = subst (λ j. j < m) (sym (get_or-range_with_len 0 n k d less)) (omega arith)

-- Among more numbers no fewer pass.

one-more : (p : ℕ → Bool) (n : ℕ) → length (filter p (below n)) ≤ length (filter p (below (n + 1)))
one-more p n =
    let is =
    ap (λ xs. length (filter p xs)) (below-next n) ∙ ap length (filter-append p (below n) (n ∷ []))
    ∙ length-append (filter p (below n)) (filter p (n ∷ [])) in
    omega (arith, is)

grow : (p : ℕ → Bool) (m d n : ℕ) → n ≡ m + d → length (filter p (below m)) ≤ length (filter p (below n))
grow p m zero n is =
    let all : n ≡ m = omega (arith, is) in
    let same = ap (λ k. length (filter p (below k))) all in
    omega (arith, same)
grow p m (suc d) n is =
    let all : n ≡ m + d + 1 = omega (arith, is) in
    let same = ap (λ k. length (filter p (below k))) all in
    let before = grow p m d (m + d) refl in
    let next = one-more p (m + d) in
    omega (arith, same, before, next)

pub no-fewer : (p : ℕ → Bool) (m n : ℕ) → m ≤ n → length (filter p (below m)) ≤ length (filter p (below n))
no-fewer p m n less = grow p m (n - m) n (omega arith)
