-- Ranges and sums with one value or one sweep more behind the others.
use Rattle.std.specs.Prelude.{◌+◌, max, ℤ, Bool, List, [], ◌∷◌, Option, Some, None, if◌then◌else◌}
use Rattle.clock_margins.specs.declared.margin.Between.{Between}
use Rattle.clock_margins.specs.declared.margin.Margin.{Margin}
use Rattle.clock_margins.specs.declared.margin.Total.{Total}
use Rattle.clock_margins.specs.Outcomes.{ValueTold}
use Rattle.clock_margins.specs.Ranges.{Range, is_told_as, range_alone}
use Rattle.clock_margins.specs.Sums.{between_with, common, nearer, nearest, count_of_values, counts_with}

-- ranges with a value behind them: it joins the last range where it is told as that, and else is one alone
abbrev pub range_behind : ValueTold → List Range → List Range
range_behind told [] = range_alone told ∷ []
range_behind told (range ∷ []) =
    if is_told_as told range then record range { to = told.value } ∷ [] else range ∷ range_alone told ∷ []
range_behind told (range ∷ next ∷ ranges) = range ∷ range_behind told (next ∷ ranges)

-- all ranges but the last, which a value more may make longer, and the last
abbrev pub closed_ranges : List Range → List Range
closed_ranges [] = []
closed_ranges (range ∷ []) = []
closed_ranges (range ∷ next ∷ ranges) = range ∷ closed_ranges (next ∷ ranges)

abbrev pub open_range : List Range → Option Range
open_range [] = None
open_range (range ∷ []) = Some range
open_range (range ∷ next ∷ ranges) = open_range (next ∷ ranges)

-- the least and the greatest of some values, with one more if it counts
abbrev pub noted_if : Bool → ℤ → Option Between → Option Between
noted_if counts value before = if counts then Some (between_with value before) else before

-- what sweeps come to, with one more behind them
abbrev pub total_behind : Total → Margin → Total
total_behind total margin = record {
  sweeps = total.sweeps + 1;
  values = total.values + count_of_values margin.counts;
  counts = counts_with total.counts margin.counts;
  free = common total.free margin.free;
  least = nearer total.least (nearest margin);
  most = max total.most margin.most;
}
