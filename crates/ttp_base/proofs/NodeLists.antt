-- Sets of the nodes of a list: those of the numbers below n that pass a test, with a node put in or taken out.
use Rattle.std.proofs.Common.{◌≡◌, ℕ, zero, suc, ◌+◌, ◌<◌, ◌≤◌, Bool, true, false, cond, not, ◌&&◌, ◌||◌, ltb, [], ◌∷◌}
use Rattle.std.proofs.Common.{refl, ap, sym, ◌∙◌, inl, inr, arith}
use Rattle.std.specs.Prelude.{◌==◌}
use Rattle.std.specs.List.{filter, range_with_len}
use Rattle.std.proofs.lemmas.Bool.{cases_lt, cases_eq, eq-eqb, ne_eqb, lt-ltb, le-ltb, and_right}
use Rattle.ttp_base.specs.NodeSet.{most_nodes, below, has_node, with_node, without_node}
use Rattle.ttp_base.proofs.NodeSets.{filter-filter, has_node-filter, has_node-sieve, same_sieve}

-- a test that fails at each number from a on picks none of them
pub filter-none : (p : ℕ → Bool) (a n : ℕ) → ((j : ℕ) → a ≤ j → p j ≡ false) → filter p (range_with_len a n) ≡ []
filter-none p a zero fails = refl
filter-none p a (suc n) fails =
    let here : p a ≡ false = fails a (omega arith) in
    rw here (filter-none p (a + 1) n (λ j from. fails j (omega arith)))

-- of t numbers from a on, those below a + n that pass a test are those of the first n
filter-range : (p : ℕ → Bool) (a n t b : ℕ) → n ≤ t → b ≡ a + n
    → filter (λ j. ltb j b && p j) (range_with_len a t) ≡ filter p (range_with_len a n)
filter-range p a zero t b fits is =
    filter-none (λ j. ltb j b && p j) a t
    (λ j from. let past : ltb j b ≡ false = le-ltb j b (omega arith) in ap (λ c. c && p j) past)
filter-range p a (suc n) zero b fits is = absurd (omega arith)
filter-range p a (suc n) (suc t) b fits is =
    let within : ltb a b ≡ true = lt-ltb a b (omega arith) in
    let rest = filter-range p (a + 1) n t b (omega arith) (omega arith) in
    rw within (ap (λ ys. cond (p a) (a ∷ ys) ys) rest)

-- of the numbers below a greater number, those below n that pass a test are its filter of the numbers below n
pub filter-below : (p : ℕ → Bool) (n t : ℕ) → n ≤ t → filter (λ j. ltb j n && p j) (below t) ≡ filter p (below n)
filter-below p n t fits = filter-range p 0 n t n fits (omega arith)

-- no number from a + n on is among the n numbers from a on
has_node-range_past : (a n j : ℕ) → a + n ≤ j → has_node (range_with_len a n) j ≡ false
has_node-range_past a zero j past = refl
has_node-range_past a (suc n) j past =
    let here : (a == j) ≡ false = ne_eqb a j (λ same. omega arith) in
    rw here (has_node-range_past (a + 1) n j (omega arith))

-- no number from n on is a member of a filter of the numbers below n
has_node-past : (p : ℕ → Bool) (n j : ℕ) → n ≤ j → has_node (filter p (below n)) j ≡ false
has_node-past p n j past = has_node-filter p (below n) j ∙ and_right (p j) _ (has_node-range_past 0 n j (omega arith))

-- a node of the list put in
pub with_node-filter : (p : ℕ → Bool) (n k : ℕ) → k < n → n ≤ most_nodes
    → with_node (filter p (below n)) k ≡ filter (λ j. (j == k) || p j) (below n)
unfolding with_node
with_node-filter p n k within fits =
    same_sieve was now most_nodes each ∙ filter-below (λ j. (j == k) || p j) n most_nodes fits
  where
    was : ℕ → Bool
    was j = (j == k) || has_node (filter p (below n)) j

    now : ℕ → Bool
    now j = ltb j n && ((j == k) || p j)

    each : (j : ℕ) → j < most_nodes → was j ≡ now j
    each j small = elim (cases_lt j n) [
      | inl less ↦
          let member = has_node-sieve p n j less in
          let below_n : ltb j n ≡ true = lt-ltb j n less in
          rw (member, below_n)
      | inr past ↦
          let other : (j == k) ≡ false = ne_eqb j k (λ same. omega arith) in
          let none = has_node-past p n j past in
          let not_below : ltb j n ≡ false = le-ltb j n past in
          rw (other, none, not_below)
    ]

-- a node taken out
pub without_node-filter : (p : ℕ → Bool) (n k : ℕ)
    → without_node (filter p (below n)) k ≡ filter (λ j. p j && not (j == k)) (below n)
without_node-filter p n k = filter-filter p (λ j. not (j == k)) (below n)

-- one more number: it is put in where it passes
pub with_node-next : (p : ℕ → Bool) (n : ℕ) → n < most_nodes → p n ≡ true
    → with_node (filter p (below n)) n ≡ filter p (below (n + 1))
unfolding with_node
with_node-next p n small passes = same_sieve was now most_nodes each ∙ filter-below p (n + 1) most_nodes (omega arith)
  where
    was : ℕ → Bool
    was j = (j == n) || has_node (filter p (below n)) j

    now : ℕ → Bool
    now j = ltb j (n + 1) && p j

    each : (j : ℕ) → j < most_nodes → was j ≡ now j
    each j _ = elim (cases_lt j n) [
      | inl less ↦
          let other : (j == n) ≡ false = ne_eqb j n (λ same. omega arith) in
          let member = has_node-sieve p n j less in
          let below_next : ltb j (n + 1) ≡ true = lt-ltb j (n + 1) (omega arith) in
          rw (other, member, below_next)
      | inr from ↦ elim (cases_eq j n) [
        | inl same ↦
            let here : (j == n) ≡ true = eq-eqb j n same in
            let below_next : ltb j (n + 1) ≡ true = lt-ltb j (n + 1) (omega arith) in
            let good : p j ≡ true = ap p same ∙ passes in
            rw (here, below_next, good)
        | inr other ↦
            let off : (j == n) ≡ false = ne_eqb j n other in
            let none = has_node-past p n j from in
            let past : ltb j (n + 1) ≡ false = le-ltb j (n + 1) (omega arith) in
            rw (off, none, past)
      ]
    ]

-- and left out where it does not
pub filter-next : (p : ℕ → Bool) (n : ℕ) → n < most_nodes → p n ≡ false → filter p (below n) ≡ filter p (below (n + 1))
filter-next p n small fails =
    sym (filter-below p n most_nodes (omega arith)) ∙ same_sieve was now most_nodes each
    ∙ filter-below p (n + 1) most_nodes (omega arith)
  where
    was : ℕ → Bool
    was j = ltb j n && p j

    now : ℕ → Bool
    now j = ltb j (n + 1) && p j

    each : (j : ℕ) → j < most_nodes → was j ≡ now j
    each j _ = elim (cases_eq j n) [
      | inl same ↦
          let none : p j ≡ false = ap p same ∙ fails in
          and_right (ltb j n) (p j) none ∙ sym (and_right (ltb j (n + 1)) (p j) none)
      | inr other ↦ elim (cases_lt j n) [
        | inl less ↦
            let before : ltb j n ≡ true = lt-ltb j n less in
            let after : ltb j (n + 1) ≡ true = lt-ltb j (n + 1) (omega arith) in
            rw (before, after)
        | inr from ↦
            let before : ltb j n ≡ false = le-ltb j n from in
            let after : ltb j (n + 1) ≡ false = le-ltb j (n + 1) (omega arith) in
            rw (before, after)
      ]
    ]

-- of the numbers from a on, the test of one of them picks it alone
filter-one : (a n k : ℕ) → a ≤ k → k < a + n → filter (λ j. (j == k) || false) (range_with_len a n) ≡ k ∷ []
filter-one a zero k from to = absurd (omega arith)
filter-one a (suc n) k from to = elim (cases_eq a k) [
  | inl same ↦
      let here : (a == k) ≡ true = eq-eqb a k same in
      let none =
      filter-none (λ j. (j == k) || false) (a + 1) n
      (λ j past. let off : (j == k) ≡ false = ne_eqb j k (λ is. omega arith) in ap (λ b. b || false) off) in
      rw (here, none) (ap (λ j. j ∷ []) same)
  | inr other ↦
      let off : (a == k) ≡ false = ne_eqb a k other in
      rw off (filter-one (a + 1) n k (omega arith) (omega arith))
]

-- the set of one node
pub with_node-nil : (k : ℕ) → k < most_nodes → with_node [] k ≡ k ∷ []
unfolding with_node
with_node-nil k small = filter-one 0 most_nodes k (omega arith) (omega (arith, small))
