-- How many numbers of a range are left where some are taken out.
use Rattle.script_gen.proofs.Words.{◌≡◌, ℕ, zero, suc, ◌+◌, ◌≤◌, Bool, true, false, cond, not, ◌&&◌, ◌||◌, List, []}
use Rattle.script_gen.proofs.Words.{◌∷◌, length, map, refl, ap, sym, ◌∙◌, inl, inr, arith, ◌==◌, count_by, slice_get}
use Rattle.script_gen.proofs.Words.{unwrap_or, filter, range_with_len, cases_eq, eq-eqb, ne_eqb, unwrap_or-slice_get}
use Rattle.script_gen.proofs.Words.{below, has_node, same_sieve}
use Rattle.std.proofs.lemmas.List.Folds.{fold-map}
use Rattle.std.proofs.lemmas.List.FromFn.{fill_by_all, length-range_with_len}
use Rattle.std.proofs.lemmas.List.Sums.{length-filter}
use Rattle.ttp_world.proofs.SmallTests.{and-true}

agree-from : (p q : ℕ → Bool) (a n : ℕ) → ((k : ℕ) → a ≤ k → p k ≡ q k)
    → filter p (range_with_len a n) ≡ filter q (range_with_len a n)
agree-from p q a zero agree = refl
agree-from p q a (suc n) agree =
    let rest = agree-from p q (a + 1) n (λ k from. agree k (omega arith)) in
    let here = agree a (omega arith) in
    λ i. cond (here i) (a ∷ rest i) (rest i)

-- without one number, at most one less is kept
kept-here : (b : Bool) (a : ℕ) (ks : List ℕ)
    → length (cond b (a ∷ ks) ks) ≤ suc (length (cond (b && false) (a ∷ ks) ks))
kept-here true a ks = omega arith
kept-here false a ks = omega arith

kept-there : (b : Bool) (a : ℕ) (ks js : List ℕ) → length ks ≤ suc (length js)
    → length (cond b (a ∷ ks) ks) ≤ suc (length (cond (b && true) (a ∷ js) js))
kept-there true a ks js few = omega arith
kept-there false a ks js few = omega arith

without-one : (p : ℕ → Bool) (x a n : ℕ)
    → length (filter p (range_with_len a n)) ≤ suc (length (filter (λ k. p k && not (x == k)) (range_with_len a n)))
without-one p x a zero = omega arith
without-one p x a (suc n) = elim (cases_eq x a) [
  | inl same ↦
      let here : (x == a) ≡ true = eq-eqb x a same in
      let rest : filter p (range_with_len (a + 1) n)
      ≡ filter (λ k. p k && not (x == k)) (range_with_len (a + 1) n) =
      agree-from p (λ k. p k && not (x == k)) (a + 1) n
      (λ k from. and-true (p k) ∙ sym (ap (λ b. p k && not b) (ne_eqb x k (λ is. omega arith)))) in
      rw (here, ← rest) (kept-here (p a) a (filter p (range_with_len (a + 1) n)))
  | inr other ↦
      let here : (x == a) ≡ false = ne_eqb x a other in
      rw here (kept-there (p a) a (filter p (range_with_len (a + 1) n))
      (filter (λ k. p k && not (x == k)) (range_with_len (a + 1) n)) (without-one p x (a + 1) n))
]

one-more : (b among here : Bool) → ((b && not among) && not here) ≡ (b && not (here || among))
one-more true true true = refl
one-more true true false = refl
one-more true false true = refl
one-more true false false = refl
one-more false among here = refl

-- without some numbers, at most as many less as there are of them
pub without-some : (p : ℕ → Bool) (xs : List ℕ) (n : ℕ)
    → length (filter p (below n)) ≤ length xs + length (filter (λ k. p k && not (has_node xs k)) (below n))
without-some p [] n =
    let same = same_sieve p (λ k. p k && true) n (λ k less. and-true (p k)) in
    omega (arith, ap length same)
without-some p (x ∷ xs) n =
    let before = without-some p xs n in
    let one = without-one (λ k. p k && not (has_node xs k)) x 0 n in
    let same =
    same_sieve (λ k. (p k && not (has_node xs k)) && not (x == k)) (λ k. p k && not (has_node (x ∷ xs) k)) n
    (λ k less. one-more (p k) (has_node xs k) (x == k)) in
    omega (arith, before, one, ap length same)

-- each number passes
pub length-all : (n : ℕ) → length (filter (λ k. true) (below n)) ≡ n
length-all n = whole (below n) ∙ length-range_with_len 0 n
  where
    whole : (ks : List ℕ) → length (filter (λ k. true) ks) ≡ length ks
    whole [] = refl
    whole (k ∷ ks) = ap suc (whole ks)

-- as many elements pass a test as places of such elements
pub count-places : {X : Type 0} (p : X → Bool) (xs : List X) (d : X)
    → length (filter (λ k. p (unwrap_or (slice_get xs k) d)) (below (length xs))) ≡ count_by p xs
count-places {X = X} p xs d =
    let at = λ (k : ℕ). unwrap_or (slice_get xs k) d in
    let all : xs ≡ map at (below (length xs)) =
    fill_by_all at xs (length xs) d refl (λ k less. sym (unwrap_or-slice_get xs k d)) in
    length-filter (λ k. p (at k)) (below (length xs))
    ∙ sym (fold-map (λ (sum : ℕ) (x : X). sum + cond (p x) 1 0) at 0 (below (length xs)))
    ∙ sym (ap (count_by p) all)
