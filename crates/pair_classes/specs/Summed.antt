-- What the sums of pairs stand for.
use Rattle.std.specs.Prelude.{◌≡◌, ℕ, ◌<◌, List, [], length, get_or}
use Rattle.fault_pairs.specs.declared.pair.PairCounts.{PairCounts}
use Rattle.fault_pairs.specs.Sums.{PairTold, pair_counts, told_apart, told_kept, told_broken}
use Rattle.pair_classes.specs.declared.sums.Sums.{Sums}
use Rattle.pair_classes.specs.Ordered.{AreFewPairs}

-- the counts of a distance
abbrev pub counts_apart : Sums → ℕ → PairCounts
counts_apart sums distance = get_or sums.apart.items distance (pair_counts [])

-- they are those of these pairs, for so many distances
pub record AreSumsOf (distances : ℕ) (tolds : List PairTold) (sums : Sums) : Type 0 where
  pub room : length sums.apart.items ≡ distances
  pub apart : (d : ℕ) → d < distances → counts_apart sums d ≡ pair_counts (told_apart d tolds)
  pub kept : sums.kept ≡ pair_counts (told_kept tolds)
  pub broken : sums.broken ≡ pair_counts (told_broken tolds)

-- no count is more than so many
pub record AreFewSums (most : ℕ) (sums : Sums) : Type 0 where
  pub apart : (d : ℕ) → AreFewPairs most (counts_apart sums d)
  pub kept : AreFewPairs most sums.kept
  pub broken : AreFewPairs most sums.broken
