-- Sums of counts.
use Rattle.std.specs.Prelude.{ℕ, ◌+◌, List, [], ◌∷◌}
use Rattle.fault_pairs.specs.declared.pair.PairCounts.{PairCounts}

-- no pairs
abbrev pub no_pairs : PairCounts
no_pairs = record { pairs = 0; sum = 0; less = 0; own = 0; divided = 0; third = 0; torn = 0; dead = 0 }

-- the pairs of both
abbrev pub counts_of_both : PairCounts → PairCounts → PairCounts
counts_of_both one other = record {
  pairs = one.pairs + other.pairs;
  sum = one.sum + other.sum;
  less = one.less + other.less;
  own = one.own + other.own;
  divided = one.divided + other.divided;
  third = one.third + other.third;
  torn = one.torn + other.torn;
  dead = one.dead + other.dead;
}

-- of all
abbrev pub sum_of_counts : List PairCounts → PairCounts
sum_of_counts [] = no_pairs
sum_of_counts (counts ∷ more) = counts_of_both counts (sum_of_counts more)

-- how many pairs the classes have
abbrev pub classes_sum : PairCounts → ℕ
classes_sum counts =
    counts.sum + (counts.less + (counts.own + (counts.divided + (counts.third + (counts.torn + counts.dead)))))
