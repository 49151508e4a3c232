-- What is asked of harms and counts before they are compared and counted.
use Rattle.std.specs.Prelude.{◌≡◌, ℕ, ◌≤◌, List, filter}
use Rattle.ttp_base.specs.NodeSet.{most_nodes, below, has_node}
use Rattle.fault_pairs.specs.declared.pair.PairCounts.{PairCounts}
use Rattle.pair_classes.specs.declared.classes.Harms.{Harms}

-- nodes stand in ascending order, each once, as those of a set do
abbrev pub IsOrdered : List ℕ → Type 0
IsOrdered nodes = filter (has_node nodes) (below most_nodes) ≡ nodes

-- those that left in three runs do
pub record AreOrdered (harms : Harms) : Type 0 where
  pub both : IsOrdered harms.both.left
  pub one : IsOrdered harms.one.left
  pub two : IsOrdered harms.two.left

-- no count is more than so many
pub record AreFewPairs (most : ℕ) (counts : PairCounts) : Type 0 where
  pub pairs : counts.pairs ≤ most
  pub sum : counts.sum ≤ most
  pub less : counts.less ≤ most
  pub own : counts.own ≤ most
  pub divided : counts.divided ≤ most
  pub third : counts.third ≤ most
  pub torn : counts.torn ≤ most
  pub dead : counts.dead ≤ most
