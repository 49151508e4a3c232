-- What was counted and written of pairs so far.
use Rattle.std.specs.Prelude.{◌≡◌, ℕ, ◌+◌, suc, min, List, ◌++◌, length}
use Rattle.ttp_base.specs.Outside.{Output, WroteLines}
use Rattle.ttp_base.specs.Text.{Lines}
use Rattle.fault_pairs.specs.PairText.{lines_of_told}
use Rattle.fault_pairs.specs.Sums.{PairTold, pair_counts}
use Rattle.pair_classes.specs.declared.sums.Sums.{Sums}
use Rattle.pair_classes.specs.Ordered.{AreFewPairs}
use Rattle.pair_classes.specs.Summed.{AreSumsOf, AreFewSums}
use Rattle.pair_runs.specs.declared.tally.Tally.{Tally}
use Rattle.pair_runs.specs.declared.tried.PairsSetting.{PairsSetting}

-- a slot has no more faults than this, a first fault no more second ones, and the first faults of a slot no more pairs
abbrev pub most_tried : ℕ
most_tried = 384

abbrev pub most_of_first : ℕ
most_of_first = 7680384

abbrev pub most_of_slot : ℕ
most_of_slot = 2949267456

-- how many distances are counted
abbrev pub distances_of : PairsSetting → ℕ
distances_of common = min (suc common.within) common.script.now.slots

-- the sums of some pairs for so many distances, of which no count is more than so many
pub record HasFewSums (distances most : ℕ) (sums : Sums) : Type 0 where
  pub all : List PairTold
  pub are : AreSumsOf distances all sums
  pub few : AreFewSums most sums

-- a tally has the sums of some pairs, and counts those of one first fault; no count is more than so many
pub record HasFewPairs (distances most : ℕ) (tally : Tally) : Type 0 where
  pub sums : HasFewSums distances most tally.sums
  pub counts : AreFewPairs most tally.counts

-- these pairs were added to sums
pub record AddsTo (old new : Sums) (tolds : List PairTold) : Type 0 where
  pub few : (distances most : ℕ) → HasFewSums distances most old → HasFewSums distances (most + length tolds) new
  pub told : (distances : ℕ) (all : List PairTold) → AreSumsOf distances all old
      → AreSumsOf distances (all ++ tolds) new

-- these pairs were counted, and their lines written
pub record PutPairs (before now : Output) (old new : Tally) (tolds : List PairTold) : Type 0 where
  pub wrote : WroteLines before now (lines_of_told tolds)
  pub sums : AddsTo old.sums new.sums tolds
  pub few : (most : ℕ) → AreFewPairs most old.counts → AreFewPairs (most + length tolds) new.counts
  pub counts : (some : List PairTold) → old.counts ≡ pair_counts some → new.counts ≡ pair_counts (some ++ tolds)

-- these lines were written, and the pairs of which they tell added to the sums
pub record PutFirsts (before now : Output) (old new : Tally) (tolds : List PairTold) (lines : Lines) : Type 0 where
  pub wrote : WroteLines before now lines
  pub sums : AddsTo old.sums new.sums tolds
