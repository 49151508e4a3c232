-- The pairs of all distances are all pairs.
use Rattle.std.proofs.Common.{◌≡◌, ℕ, zero, suc, ◌+◌, ◌<◌, ◌≤◌, Bool, true, false}
use Rattle.std.proofs.Common.{cond, List, [], ◌∷◌, refl, sym, ap, ◌∙◌}
use Rattle.std.proofs.Common.{arith, length, map, inl, inr, min}
use Rattle.std.specs.Prelude.{◌==◌, count_by, filter, sum_by}
use Rattle.std.specs.List.{AllByRecursion, list_any, range_with_len}
use Rattle.std.proofs.lemmas.Bool.{cases_lt, eq-eqb, ne_eqb, or_parts}
use Rattle.std.proofs.lemmas.List.Sums.{sum_by-cons}
use Rattle.ttp_base.specs.NodeSet.{below}
use Rattle.ttp_world.specs.declared.script.Script.{Script}
use Rattle.fault_pairs.specs.declared.pair.PairCounts.{PairCounts}
use Rattle.fault_pairs.specs.Classes.{is_sum, is_less, is_own, is_divided, is_third, is_torn_pair, is_dead_pair}
use Rattle.fault_pairs.specs.Sums.{PairTold, pair_counts, told_apart, are_so_far_apart, distances}
use Rattle.pair_laws.specs.Added.{sum_of_counts}

abbrev one_if : Bool → ℕ
one_if b = cond b 1 0

-- Sums over numbers.

sum-more : {X : Type 0} (f g h : X → ℕ) → ((x : X) → f x ≡ g x + h x) → (xs : List X)
    → sum_by f xs ≡ sum_by g xs + sum_by h xs
sum-more f g h each [] = refl
sum-more f g h each (x ∷ xs) =
    omega (arith, sum-more f g h each xs, each x, sum_by-cons f x xs, sum_by-cons g x xs, sum_by-cons h x xs)

sum-none : {X : Type 0} (f : X → ℕ) → ((x : X) → f x ≡ 0) → (xs : List X) → sum_by f xs ≡ 0
sum-none f each [] = refl
sum-none f each (x ∷ xs) = omega (arith, sum-none f each xs, each x, sum_by-cons f x xs)

-- the numbers of which a test says no count for nothing
sum-filter : {X : Type 0} (f : X → ℕ) (h : X → Bool) → ((x : X) → h x ≡ false → f x ≡ 0) → (xs : List X)
    → sum_by f (filter h xs) ≡ sum_by f xs
sum-filter f h none [] = refl
sum-filter f h none (x ∷ xs) = by (h x) refl (sum-filter f h none xs)
  where
    by : (b : Bool) → h x ≡ b → sum_by f (filter h xs) ≡ sum_by f xs
        → sum_by f (cond b (x ∷ filter h xs) (filter h xs)) ≡ sum_by f (x ∷ xs)
    by true is rest = omega (arith, rest, sum_by-cons f x (filter h xs), sum_by-cons f x xs)
    by false is rest = omega (arith, rest, none x is, sum_by-cons f x xs)

-- one number alone
module _ (a n : ℕ) where
  abbrev alone : ℕ → ℕ
  alone d = cond (a == d) n 0

  alone-past : (s m : ℕ) → a < s → sum_by alone (range_with_len s m) ≡ 0
  alone-past s zero past = refl
  alone-past s (suc m) past =
      let here : alone s ≡ 0 = ap (λ b. cond b n 0) (ne_eqb a s (λ same. omega (arith, past, same))) in
      omega (arith, here, alone-past (s + 1) m (omega (arith, past)), sum_by-cons alone s (range_with_len (s + 1) m))

  alone-from : (s m : ℕ) → s ≤ a → a < s + m → sum_by alone (range_with_len s m) ≡ n
  alone-from s zero from less = absurd (omega (arith, from, less))
  alone-from s (suc m) from less =
      elim (cases_lt s a) [
        | inl more ↦
            let here : alone s ≡ 0 = ap (λ b. cond b n 0) (ne_eqb a s (λ same. omega (arith, more, same))) in
            omega (
              arith,
              here,
              alone-from (s + 1) m (omega (arith, more)) (omega (arith, less)),
              sum_by-cons alone s (range_with_len (s + 1) m),
            )
        | inr within ↦
            let here : alone s ≡ n = ap (λ b. cond b n 0) (eq-eqb a s (omega (arith, from, within))) in
            omega (
              arith,
              here,
              alone-past (s + 1) m (omega (arith, within)),
              sum_by-cons alone s (range_with_len (s + 1) m),
            )
      ]

-- Pairs of which a test says yes, by distance.

module _ (g : PairTold → Bool) where
  abbrev counted_at : List PairTold → ℕ → ℕ
  counted_at tolds d = count_by g (told_apart d tolds)

  one-more : (b : Bool) (told : PairTold) (rest : List PairTold)
      → count_by g (cond b (told ∷ rest) rest) ≡ cond b (one_if (g told)) 0 + count_by g rest
  one-more true told rest = sum_by-cons (λ t. one_if (g t)) told rest
  one-more false told rest = omega arith

  all-counted : (most : ℕ) (tolds : List PairTold) → AllByRecursion (λ told. told.apart < most) tolds
      → sum_by (counted_at tolds) (below most) ≡ count_by g tolds
  all-counted most [] each = sum-none (counted_at []) (λ d. refl) (below most)
  all-counted most (told ∷ tolds) each =
      omega (
        arith,
        sum-more (counted_at (told ∷ tolds)) (alone told.apart (one_if (g told))) (counted_at tolds)
            (λ d. one-more (told.apart == d) told (told_apart d tolds)) (below most),
        alone-from told.apart (one_if (g told)) 0 most (omega arith) (let near = each.0 in omega (arith, near)),
        all-counted most tolds each.1,
        sum_by-cons (λ t. one_if (g t)) told tolds,
      )

  none-apart : (d : ℕ) (tolds : List PairTold) → list_any (are_so_far_apart d) tolds ≡ false → counted_at tolds d ≡ 0
  none-apart d [] none = refl
  none-apart d (told ∷ tolds) none =
      let parts = or_parts (told.apart == d) (list_any (are_so_far_apart d) tolds) none in
      ap (λ b. count_by g (cond b (told ∷ told_apart d tolds) (told_apart d tolds))) parts.0
      ∙ none-apart d tolds parts.1

  pub counted-by_distance : (script : Script) (within : ℕ) (tolds : List PairTold)
      → AllByRecursion (λ told. told.apart < min (suc within) script.slots) tolds
      → sum_by (counted_at tolds) (distances script within tolds) ≡ count_by g tolds
  counted-by_distance script within tolds each =
      let most = min (suc within) script.slots in
      sum-filter (counted_at tolds) (λ d. list_any (are_so_far_apart d) tolds)
      (λ d none. none-apart d tolds none) (below most)
      ∙ all-counted most tolds each

-- Counts.

length-counted : (tolds : List PairTold) → count_by (λ t. true) tolds ≡ length tolds
length-counted [] = refl
length-counted (told ∷ tolds) = omega (arith, length-counted tolds, sum_by-cons (λ t. one_if true) told tolds)

-- a sum of counts is one of sums
sums-of : {X : Type 0} (f : X → PairCounts) (xs : List X) → sum_of_counts (map f xs) ≡ record {
  pairs = sum_by (λ x. (f x).pairs) xs;
  sum = sum_by (λ x. (f x).sum) xs;
  less = sum_by (λ x. (f x).less) xs;
  own = sum_by (λ x. (f x).own) xs;
  divided = sum_by (λ x. (f x).divided) xs;
  third = sum_by (λ x. (f x).third) xs;
  torn = sum_by (λ x. (f x).torn) xs;
  dead = sum_by (λ x. (f x).dead) xs;
}
sums-of f [] = refl
sums-of f (x ∷ xs) = λ i. record {
  pairs = next (λ c. c.pairs) (λ j. (sums-of f xs j).pairs) i;
  sum = next (λ c. c.sum) (λ j. (sums-of f xs j).sum) i;
  less = next (λ c. c.less) (λ j. (sums-of f xs j).less) i;
  own = next (λ c. c.own) (λ j. (sums-of f xs j).own) i;
  divided = next (λ c. c.divided) (λ j. (sums-of f xs j).divided) i;
  third = next (λ c. c.third) (λ j. (sums-of f xs j).third) i;
  torn = next (λ c. c.torn) (λ j. (sums-of f xs j).torn) i;
  dead = next (λ c. c.dead) (λ j. (sums-of f xs j).dead) i;
}
  where
    next : (part : PairCounts → ℕ) → part (sum_of_counts (map f xs)) ≡ sum_by (λ y. part (f y)) xs
        → part (f x) + part (sum_of_counts (map f xs)) ≡ sum_by (λ y. part (f y)) (x ∷ xs)
    next part rest = ap (λ n. part (f x) + n) rest ∙ sym (sum_by-cons (λ y. part (f y)) x xs)

pub counts-by_distance : (script : Script) (within : ℕ) (tolds : List PairTold)
    → AllByRecursion (λ told. told.apart < min (suc within) script.slots) tolds
    → sum_of_counts (map (λ d. pair_counts (told_apart d tolds)) (distances script within tolds)) ≡ pair_counts tolds
counts-by_distance script within tolds each =
    let ds = distances script within tolds in
    sums-of (λ d. pair_counts (told_apart d tolds)) ds
    ∙ (λ i. record {
      pairs = lengths ds i;
      sum = counted-by_distance (λ t. is_sum t.class) script within tolds each i;
      less = counted-by_distance (λ t. is_less t.class) script within tolds each i;
      own = counted-by_distance (λ t. is_own t.class) script within tolds each i;
      divided = counted-by_distance (λ t. is_divided t.class) script within tolds each i;
      third = counted-by_distance (λ t. is_third t.class) script within tolds each i;
      torn = counted-by_distance (λ t. is_torn_pair t.class) script within tolds each i;
      dead = counted-by_distance (λ t. is_dead_pair t.class) script within tolds each i;
    })
  where
    same-sums : (f g : ℕ → ℕ) → ((d : ℕ) → f d ≡ g d) → (ds : List ℕ) → sum_by f ds ≡ sum_by g ds
    same-sums f g each_same [] = refl
    same-sums f g each_same (d ∷ ds) =
        omega (arith, same-sums f g each_same ds, each_same d, sum_by-cons f d ds, sum_by-cons g d ds)

    lengths : (ds : List ℕ) → sum_by (λ d. length (told_apart d tolds)) (distances script within tolds) ≡ length tolds
    lengths ds =
        same-sums (λ d. length (told_apart d tolds)) (λ d. count_by (λ t. true) (told_apart d tolds))
        (λ d. sym (length-counted (told_apart d tolds))) (distances script within tolds)
        ∙ counted-by_distance (λ t. true) script within tolds each
        ∙ length-counted tolds
