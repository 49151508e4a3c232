-- Sets of nodes that are gathered one after another.
use Rattle.std.proofs.Common.{◌≡◌, ℕ, ◌+◌, ◌<◌, ◌≤◌, Bool, true, false, cond, ◌&&◌, ◌||◌, ltb, [], ◌∷◌, ◌++◌, refl, ap}
use Rattle.std.proofs.Common.{sym, ◌∙◌, inl, inr, arith}
use Rattle.std.specs.Prelude.{◌==◌, filter}
use Rattle.std.proofs.lemmas.Bool.{cases_eq, eq-eqb, ne_eqb, le-ltb, lt-ltb, ltb-true}
use Rattle.std.proofs.lemmas.Bool.Decides.{same_from_decides}
use Rattle.std.proofs.lemmas.List.Elements.{filter-append}
use Rattle.ttp_base.proofs.Below.{below-next}
use Rattle.ttp_base.proofs.NodeLists.{filter-below, filter-none, with_node-filter}
use Rattle.ttp_base.proofs.NodeSets.{same_sieve}
use Rattle.ttp_base.specs.NodeSet.{below, most_nodes, with_node}

ltb-next : (j k : ℕ) → (j ≡ k → ⊥) → ltb j (k + 1) ≡ ltb j k
ltb-next j k other =
    same_from_decides (ltb j (k + 1)) (ltb j k) (
      λ is. let less = ltb-true j (k + 1) is in omega (arith, other),
      λ less. lt-ltb j (k + 1) (omega arith),
    )
    (λ is. ltb-true j k is, λ less. lt-ltb j k less)

found-in : (h : ℕ → Bool) (k j : ℕ) → h k ≡ true → ((j == k) || (ltb j k && h j)) ≡ (ltb j (k + 1) && h j)
found-in h k j is = elim (cases_eq j k) [
  | inl same ↦
      let e : (j == k) ≡ true = eq-eqb j k same in
      let l : ltb j (k + 1) ≡ true = lt-ltb j (k + 1) (omega arith) in
      let t : h j ≡ true = ap h same ∙ is in
      rw (e, l, t)
  | inr other ↦
      let e : (j == k) ≡ false = ne_eqb j k other in
      let l = ltb-next j k other in
      rw (e, l)
]

found-out : (h : ℕ → Bool) (k j : ℕ) → h k ≡ false → (ltb j k && h j) ≡ (ltb j (k + 1) && h j)
found-out h k j is = elim (cases_eq j k) [
  | inl same ↦
      let t : h j ≡ false = ap h same ∙ is in
      rw t (none (ltb j k) (ltb j (k + 1)))
  | inr other ↦
      let l = ltb-next j k other in
      rw l
]
  where
    none : (a b : Bool) → (a && false) ≡ (b && false)
    none true true = refl
    none true false = refl
    none false true = refl
    none false false = refl

-- before the first, with node k, without it, and all
pub sieve-start : (h : ℕ → Bool) (n : ℕ) → [] ≡ filter (λ j. ltb j 0 && h j) (below n)
sieve-start h n =
    sym (filter-none (λ j. ltb j 0 && h j) 0 n
    (λ j from. let none : ltb j 0 ≡ false = le-ltb j 0 (omega arith) in ap (λ (b : Bool). b && h j) none))

pub sieve-in : (h : ℕ → Bool) (n k : ℕ) → k < n → n ≤ most_nodes → h k ≡ true
    → with_node (filter (λ j. ltb j k && h j) (below n)) k ≡ filter (λ j. ltb j (k + 1) && h j) (below n)
sieve-in h n k less few is =
    with_node-filter (λ j. ltb j k && h j) n k less few
    ∙ same_sieve (λ j. (j == k) || (ltb j k && h j)) (λ j. ltb j (k + 1) && h j) n (λ j within. found-in h k j is)

pub sieve-out : (h : ℕ → Bool) (n k : ℕ) → h k ≡ false
    → filter (λ j. ltb j k && h j) (below n) ≡ filter (λ j. ltb j (k + 1) && h j) (below n)
sieve-out h n k is =
    same_sieve (λ j. ltb j k && h j) (λ j. ltb j (k + 1) && h j) n (λ j within. found-out h k j is)

pub sieve-end : (h : ℕ → Bool) (n k : ℕ) → k ≡ n → filter (λ j. ltb j k && h j) (below n) ≡ filter h (below n)
sieve-end h n k is = ap (λ (m : ℕ). filter (λ j. ltb j m && h j) (below n)) is ∙ filter-below h n n (omega arith)

-- Those of the first nodes, one more at a time.

pub first-next : (p : ℕ → Bool) (k : ℕ) → filter p (below (k + 1)) ≡ filter p (below k) ++ cond (p k) (k ∷ []) []
first-next p k = ap (filter p) (below-next k) ∙ filter-append p (below k) (k ∷ [])
