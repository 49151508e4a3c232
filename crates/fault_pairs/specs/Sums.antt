-- How many pairs are of which class: all of them, those of each distance, and those whose test says yes or no.
use Rattle.std.specs.Prelude.{ℕ, suc, min, ◌==◌, Bool, not, List, length, filter, count_by}
use Rattle.std.specs.List.{list_any}
use Rattle.ttp_base.specs.NodeSet.{below}
use Rattle.ttp_world.specs.declared.script.Script.{Script}
use Rattle.fault_pairs.specs.declared.pair.PairClass.{PairClass}
use Rattle.fault_pairs.specs.declared.pair.PairCounts.{PairCounts}
use Rattle.fault_pairs.specs.Classes.{is_sum, is_less, is_own, is_divided, is_third, is_torn_pair, is_dead_pair}

-- What is told of a pair: how many slots its faults are apart, what the test of the script with both says, its class,
-- and the line that it has where its class has one.
pub record PairTold : Type 0 where
  pub apart : ℕ
  pub yes : Bool
  pub class : PairClass
  pub line : List ℕ

-- how many there are, and how many of each class
abbrev pub pair_counts : List PairTold → PairCounts
pair_counts tolds = record {
  pairs = length tolds;
  sum = count_by (λ told. is_sum told.class) tolds;
  less = count_by (λ told. is_less told.class) tolds;
  own = count_by (λ told. is_own told.class) tolds;
  divided = count_by (λ told. is_divided told.class) tolds;
  third = count_by (λ told. is_third told.class) tolds;
  torn = count_by (λ told. is_torn_pair told.class) tolds;
  dead = count_by (λ told. is_dead_pair told.class) tolds;
}

-- those of a distance
abbrev pub are_so_far_apart : ℕ → PairTold → Bool
are_so_far_apart distance told = told.apart == distance

abbrev pub told_apart : ℕ → List PairTold → List PairTold
told_apart distance tolds = filter (are_so_far_apart distance) tolds

-- those whose test says yes, and those whose test says no
abbrev pub told_kept : List PairTold → List PairTold
told_kept tolds = filter (λ told. told.yes) tolds

abbrev pub told_broken : List PairTold → List PairTold
told_broken tolds = filter (λ told. not told.yes) tolds

-- the distances that some pair has, in ascending order: two slots of a script are fewer apart than it has slots
abbrev pub distances : Script → ℕ → List PairTold → List ℕ
distances script within tolds =
    filter (λ distance. list_any (are_so_far_apart distance) tolds) (below (min (suc within) script.slots))
