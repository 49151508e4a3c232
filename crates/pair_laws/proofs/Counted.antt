-- Counts of pairs: the classes make up all of them, and two lists what both have.
use Rattle.std.proofs.Common.{◌≡◌, ℕ, ◌+◌, Bool, true, false, cond, not, List, [], ◌∷◌, ◌++◌, refl, sym, ap, ◌∙◌}
use Rattle.std.proofs.Common.{arith, length, length-append, map}
use Rattle.std.specs.Prelude.{count_by, filter, flat_map}
use Rattle.std.proofs.lemmas.List.Sums.{sum_by-append, sum_by-cons}
use Rattle.fault_pairs.specs.declared.pair.PairClass.{PairClass}
use Rattle.fault_pairs.specs.declared.pair.PairClass.TheVariants as class
use Rattle.fault_pairs.specs.Classes.{is_sum, is_less, is_own, is_divided, is_third, is_torn_pair, is_dead_pair}
use Rattle.fault_pairs.specs.Sums.{PairTold, pair_counts}
use Rattle.pair_laws.specs.Added.{counts_of_both, sum_of_counts, classes_sum}

-- Each pair is of one class.

abbrev one_if : Bool → ℕ
one_if b = cond b 1 0

one_class : (c : PairClass)
    → one_if (is_sum c) + (one_if (is_less c) + (one_if (is_own c) + (one_if (is_divided c)
    + (one_if (is_third c) + (one_if (is_torn_pair c) + one_if (is_dead_pair c)))))) ≡ 1
one_class class.Sum = refl
one_class c = refl

pub classes-counted : (tolds : List PairTold) → classes_sum (pair_counts tolds) ≡ length tolds
classes-counted [] = refl
classes-counted (told ∷ tolds) = omega (
  arith,
  classes-counted tolds,
  one_class told.class,
  sum_by-cons (λ t. one_if (is_sum t.class)) told tolds,
  sum_by-cons (λ t. one_if (is_less t.class)) told tolds,
  sum_by-cons (λ t. one_if (is_own t.class)) told tolds,
  sum_by-cons (λ t. one_if (is_divided t.class)) told tolds,
  sum_by-cons (λ t. one_if (is_third t.class)) told tolds,
  sum_by-cons (λ t. one_if (is_torn_pair t.class)) told tolds,
  sum_by-cons (λ t. one_if (is_dead_pair t.class)) told tolds,
)

-- Two lists.

pub counts-append : (some others : List PairTold)
    → counts_of_both (pair_counts some) (pair_counts others) ≡ pair_counts (some ++ others)
counts-append some others = λ i. record {
  pairs = sym (length-append some others) i;
  sum = counted is_sum i;
  less = counted is_less i;
  own = counted is_own i;
  divided = counted is_divided i;
  third = counted is_third i;
  torn = counted is_torn_pair i;
  dead = counted is_dead_pair i;
}
  where
    counted : (p : PairClass → Bool)
        → count_by (λ t. p t.class) some + count_by (λ t. p t.class) others
        ≡ count_by (λ t. p t.class) (some ++ others)
    counted p = sym (sum_by-append (λ t. one_if (p t.class)) some others)

-- as many as the lists that functions give, one after another
pub counts-flat : {X : Type 0} (f : X → List PairTold) (xs : List X)
    → sum_of_counts (map (λ x. pair_counts (f x)) xs) ≡ pair_counts (flat_map f xs)
counts-flat f [] = refl
counts-flat f (x ∷ xs) =
    ap (counts_of_both (pair_counts (f x))) (counts-flat f xs) ∙ counts-append (f x) (flat_map f xs)

-- Those of which a test says yes, and the others.

module _ (p : PairTold → Bool) where
  parted-one : (g : PairTold → Bool) (b : Bool) (told : PairTold) (rest : List PairTold)
      → count_by g (cond b (told ∷ rest) rest) ≡ cond b (one_if (g told)) 0 + count_by g rest
  parted-one g true told rest = sum_by-cons (λ t. one_if (g t)) told rest
  parted-one g false told rest = omega arith

  both-ways : (b : Bool) (n : ℕ) → cond b n 0 + cond (not b) n 0 ≡ n
  both-ways true n = omega arith
  both-ways false n = omega arith

  parted : (g : PairTold → Bool) (tolds : List PairTold)
      → count_by g (filter p tolds) + count_by g (filter (λ t. not (p t)) tolds) ≡ count_by g tolds
  parted g [] = refl
  parted g (told ∷ tolds) = omega (
    arith,
    parted g tolds,
    parted-one g (p told) told (filter p tolds),
    parted-one g (not (p told)) told (filter (λ t. not (p t)) tolds),
    both-ways (p told) (one_if (g told)),
    sum_by-cons (λ t. one_if (g t)) told tolds,
  )

  length-one : (b : Bool) (told : PairTold) (rest : List PairTold)
      → length (cond b (told ∷ rest) rest) ≡ one_if b + length rest
  length-one true told rest = omega arith
  length-one false told rest = omega arith

  length-parted : (tolds : List PairTold) → length (filter p tolds)
      + length (filter (λ t. not (p t)) tolds) ≡ length tolds
  length-parted [] = refl
  length-parted (told ∷ tolds) = omega (
    arith,
    length-parted tolds,
    length-one (p told) told (filter p tolds),
    length-one (not (p told)) told (filter (λ t. not (p t)) tolds),
    both-ways (p told) 1,
  )

  pub counts-parted : (tolds : List PairTold)
      → counts_of_both (pair_counts (filter p tolds)) (pair_counts (filter (λ t. not (p t)) tolds)) ≡ pair_counts tolds
  counts-parted tolds = λ i. record {
    pairs = length-parted tolds i;
    sum = parted (λ t. is_sum t.class) tolds i;
    less = parted (λ t. is_less t.class) tolds i;
    own = parted (λ t. is_own t.class) tolds i;
    divided = parted (λ t. is_divided t.class) tolds i;
    third = parted (λ t. is_third t.class) tolds i;
    torn = parted (λ t. is_torn_pair t.class) tolds i;
    dead = parted (λ t. is_dead_pair t.class) tolds i;
  }
