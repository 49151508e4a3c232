-- What was taken of the values of a sweep so far.
use Rattle.std.specs.Prelude.{◌≡◌, ℕ, ◌<◌, ◌≤◌, List, [], map, length, filter, Option, option_map}
use Rattle.std.specs.List.{list_any, cons_option}
use Rattle.ttp_base.specs.NodeSet.{most_nodes, below, has_node}
use Rattle.clock_margins.specs.declared.margin.CostCounts.{CostCounts}
use Rattle.clock_margins.specs.declared.margin.Outcome.{Outcome}
use Rattle.clock_margins.specs.declared.margin.Total.{Total}
use Rattle.clock_margins.specs.Outcomes.{ValueTold}
use Rattle.clock_margins.specs.Ranges.{Range, ranges_of}
use Rattle.clock_margins.specs.Sums.{lies_below_0, lies_above_0, lies_from_0_on, lies_at_0, costly, costly_to_others}
use Rattle.clock_margins.specs.Sums.{least_to_greatest, counts_by_cost, most_hurt}
use Rattle.margin_laws.specs.Behind.{closed_ranges, open_range}
use Rattle.margin_text.specs.declared.fold.SweepFold.{SweepFold}
use Rattle.margin_text.specs.declared.range.OpenRange.{OpenRange}
use Rattle.margin_text.specs.declared.swept.Swept.{Swept}
use Rattle.margin_text.specs.declared.told.Told.{Told}

-- what is told of a value, and a range, by the words of the definitions
abbrev pub value_told : Told → ValueTold
value_told told = record { value = told.value; test = told.test; outcome = told.outcome }

abbrev pub range_of : OpenRange → Range
range_of range = record { from = range.from; to = range.to; test = range.test; outcome = range.outcome }

-- An outcome as lines have it: sets in ascending order, and no more memberships than nodes.

abbrev pub IsInOrder : List ℕ → Type 0
IsInOrder nodes = filter (has_node nodes) (below most_nodes) ≡ nodes

pub record IsWritable (outcome : Outcome) : Type 0 where
  pub left : IsInOrder outcome.left
  pub hurt : IsInOrder outcome.hurt
  pub few : length outcome.end ≤ most_nodes

-- the sums are those of these values
pub record IsFoldOf (tolds : List ValueTold) (fold : SweepFold) : Type 0 where
  pub node : fold.node < most_nodes
  pub counts : fold.counts ≡ counts_by_cost fold.node tolds
  pub zero_costs : fold.zero_costs ≡ list_any lies_at_0 (costly fold.node tolds)
  pub costs_below : fold.costs_below ≡ least_to_greatest (filter lies_below_0 (costly fold.node tolds))
  pub costs_above : fold.costs_above ≡ least_to_greatest (filter lies_above_0 (costly fold.node tolds))
  pub below : fold.below ≡ least_to_greatest (filter lies_below_0 (costly_to_others fold.node tolds))
  pub above : fold.above ≡ least_to_greatest (filter lies_from_0_on (costly_to_others fold.node tolds))
  pub most : fold.most ≡ most_hurt tolds

-- and so are the range that stands open, and the count of those that are closed
pub record IsSweptOf (tolds : List ValueTold) (swept : Swept) : Type 0 where
  pub fold : IsFoldOf tolds swept.fold
  pub last : option_map range_of swept.last ≡ open_range (ranges_of tolds)
  pub closed : swept.closed ≡ length (closed_ranges (ranges_of tolds))

-- the range that a value closed, if it closed one
abbrev pub ranges_closed : Option OpenRange → List Range
ranges_closed range = map range_of (cons_option range [])

-- No count is more than so many.

pub record AreCountsUpTo (most : ℕ) (counts : CostCounts) : Type 0 where
  pub nobody : counts.nobody ≤ most
  pub itself : counts.itself ≤ most
  pub others : counts.others ≤ most

pub record HasFew (most : ℕ) (swept : Swept) : Type 0 where
  pub counts : AreCountsUpTo most swept.fold.counts
  pub closed : swept.closed ≤ most

pub record IsFewOf (most : ℕ) (total : Total) : Type 0 where
  pub sweeps : total.sweeps ≤ most
  pub values : total.values ≤ most
  pub counts : AreCountsUpTo most total.counts
