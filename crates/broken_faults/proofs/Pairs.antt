-- The two lowest of some numbers.
use Rattle.std.proofs.Common.{◌≡◌, ℕ, zero, suc, ◌+◌, ◌<◌, ◌≤◌, Bool, true, false, not, ◌&&◌, List, [], ◌∷◌, refl}
use Rattle.std.proofs.Common.{sym, ◌∙◌, arith, Some}
use Rattle.std.proofs.lemmas.Bool.{ne_eqb, eq-eqb}
use Rattle.std.specs.List.{filter, range_with_len, All}
use Rattle.std.specs.Prelude.{◌==◌, slice_get}
use Rattle.broken_faults.proofs.FromBelow.{small-sieve}
use Rattle.ttp_base.proofs.NodeLists.{without_node-filter}
use Rattle.ttp_base.specs.NodeSet.{below, most_nodes, without_node}

-- all numbers from a on are above a lesser one
above : (p : ℕ → Bool) (j a n : ℕ) → j < a
    → filter (λ k. p k && not (k == j)) (range_with_len a n) ≡ filter p (range_with_len a n)
above p j a zero less = refl
above p j a (suc n) less =
    let other : (a == j) ≡ false = ne_eqb a j (λ is. absurd (omega (arith, is, less))) in
    let here : (p a && not (a == j)) ≡ p a = rw other (keep (p a)) in
    rw (here, above p j (a + 1) n (omega arith)) refl
  where
    keep : (b : Bool) → (b && true) ≡ b
    keep true = refl
    keep false = refl

-- the first taken out of those that pass leaves the others
rest-by : (p : ℕ → Bool) (a n j : ℕ) (ks : List ℕ) (b : Bool) → p a ≡ b
    → (filter p (range_with_len (a + 1) n) ≡ j ∷ ks
    → filter (λ k. p k && not (k == j)) (range_with_len (a + 1) n) ≡ ks)
    → filter p (range_with_len a (suc n)) ≡ j ∷ ks
    → filter (λ k. p k && not (k == j)) (range_with_len a (suc n)) ≡ ks
rest-by p a n j ks true is later all =
    let found : a ∷ filter p (range_with_len (a + 1) n) ≡ j ∷ ks = rw is at all in
    let first : a ≡ j = grind arith in
    let others : filter p (range_with_len (a + 1) n) ≡ ks = grind arith in
    let out : (p a && not (a == j)) ≡ false = rw (sym first, is, eq-eqb a a refl) refl in
    rw out (above p j (a + 1) n (omega (arith, first)) ∙ others)
rest-by p a n j ks false is later all = rw is (later (rw is at all))

rest-of : (p : ℕ → Bool) (a n j : ℕ) (ks : List ℕ) → filter p (range_with_len a n) ≡ j ∷ ks
    → filter (λ k. p k && not (k == j)) (range_with_len a n) ≡ ks
rest-of p a zero j ks all = absurd (grind arith)
rest-of p a (suc n) j ks all = rest-by p a n j ks (p a) refl (rest-of p (a + 1) n j ks) all

pub without-first : (p : ℕ → Bool) (n j : ℕ) (ks : List ℕ) → filter p (below n) ≡ j ∷ ks
    → without_node (filter p (below n)) j ≡ ks
without-first p n j ks all = without_node-filter p n j ∙ rest-of p 0 n j ks all

-- a first one is a node
small-head : (xs : List ℕ) (k m : ℕ) → All (λ j. j < m) xs → slice_get xs 0 ≡ Some k → k < m
small-head [] k m all first = absurd (grind arith)
small-head (x ∷ xs) k m all first =
    let is : x ≡ k = grind arith in
    let small : x < m = all 0 0 (omega arith) in
    omega (arith, is, small)

pub first-small : (p : ℕ → Bool) (n k : ℕ) → n ≤ most_nodes → slice_get (filter p (below n)) 0 ≡ Some k → k < most_nodes
first-small p n k few first = small-head (filter p (below n)) k most_nodes (small-sieve p n most_nodes few) first
