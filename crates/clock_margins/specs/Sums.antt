-- What a sweep comes to, and some of them.
use Rattle.std.specs.Prelude.{ℕ, suc, ◌+◌, min, max, ℤ, pos, neg_ℤ, ◌+ℤ◌, ◌-ℤ◌, int_lt, Bool, ◌&&◌, not}
use Rattle.std.specs.Prelude.{List, [], ◌∷◌, map, length, filter}
use Rattle.std.specs.Prelude.{Option, Some, None, count_by, unsigned_abs, if◌then◌else◌}
use Rattle.std.specs.Int.{int_min, int_max}
use Rattle.std.specs.List.{list_any}
use Rattle.clock_margins.specs.declared.margin.Between.{Between}
use Rattle.clock_margins.specs.declared.margin.CostCounts.{CostCounts}
use Rattle.clock_margins.specs.declared.margin.Margin.{Margin}
use Rattle.clock_margins.specs.declared.margin.Total.{Total}
use Rattle.clock_margins.specs.Outcomes.{ValueTold, costs_nobody, costs_itself, costs_others}
use Rattle.clock_margins.specs.Ranges.{ranges_of}

-- Values.

abbrev pub swept_value : ValueTold → ℤ
swept_value told = told.value

-- from the lesser of two to the greater
abbrev pub between_with : ℤ → Option Between → Between
between_with value None = record { least = value; greatest = value }
between_with value (Some b) = record { least = int_min value b.least; greatest = int_max value b.greatest }

-- the least and the greatest of some values
abbrev pub least_to_greatest : List ℤ → Option Between
least_to_greatest [] = None
least_to_greatest (value ∷ values) = Some (between_with value (least_to_greatest values))

abbrev pub lies_below_0 : ℤ → Bool
lies_below_0 value = int_lt value (pos 0)

abbrev pub lies_above_0 : ℤ → Bool
lies_above_0 value = int_lt (pos 0) value

abbrev pub lies_from_0_on : ℤ → Bool
lies_from_0_on value = not (lies_below_0 value)

abbrev pub lies_at_0 : ℤ → Bool
lies_at_0 value = not (lies_below_0 value) && not (lies_above_0 value)

-- A sweep of node k.

-- the values that cost somebody
abbrev pub costly : ℕ → List ValueTold → List ℤ
costly k tolds = map swept_value (filter (λ told. not (costs_nobody k told)) tolds)

-- the values that cost others
abbrev pub costly_to_others : ℕ → List ValueTold → List ℤ
costly_to_others k tolds = map swept_value (filter (costs_others k) tolds)

-- one more than the greatest of these, or the least value of all
abbrev pub behind : ℕ → Option Between → ℤ
behind reach None = neg_ℤ (pos reach)
behind reach (Some b) = b.greatest +ℤ pos 1

-- one less than the least of these, or the greatest value of all
abbrev pub before : ℕ → Option Between → ℤ
before reach None = pos reach
before reach (Some b) = b.least -ℤ pos 1

-- the values around 0 that are none of these, if 0 is none: from behind the nearest below it to before the nearest
-- above it
abbrev pub free_around : ℕ → List ℤ → Option Between
free_around reach values =
    if list_any lies_at_0 values then None
    else Some (record {
      least = behind reach (least_to_greatest (filter lies_below_0 values));
      greatest = before reach (least_to_greatest (filter lies_above_0 values));
    })

-- how many values cost whom
abbrev pub counts_by_cost : ℕ → List ValueTold → CostCounts
counts_by_cost k tolds = record {
  nobody = count_by (costs_nobody k) tolds;
  itself = count_by (costs_itself k) tolds;
  others = count_by (costs_others k) tolds;
}

-- how many nodes some value hurts at most
abbrev pub most_hurt : List ValueTold → ℕ
most_hurt [] = 0
most_hurt (told ∷ tolds) = max (length told.outcome.hurt) (most_hurt tolds)

-- by all that is told of its values
abbrev pub margin_of : ℕ → ℕ → List ValueTold → Margin
margin_of reach k tolds = record {
  ranges = length (ranges_of tolds);
  counts = counts_by_cost k tolds;
  free = free_around reach (costly k tolds);
  below = least_to_greatest (filter lies_below_0 (costly_to_others k tolds));
  above = least_to_greatest (filter lies_from_0_on (costly_to_others k tolds));
  most = most_hurt tolds;
}

-- Some sweeps.

abbrev pub no_values : CostCounts
no_values = record { nobody = 0; itself = 0; others = 0 }

abbrev pub counts_with : CostCounts → CostCounts → CostCounts
counts_with one other = record {
  nobody = one.nobody + other.nobody;
  itself = one.itself + other.itself;
  others = one.others + other.others;
}

-- how many values there are
abbrev pub count_of_values : CostCounts → ℕ
count_of_values counts = counts.nobody + counts.itself + counts.others

-- what two ranges have in common, where the one or the other need not be there
abbrev pub common : Option Between → Option Between → Option Between
common None other = other
common (Some one) None = Some one
common (Some one) (Some other) = Some (record {
  least = int_max one.least other.least;
  greatest = int_min one.greatest other.greatest;
})

-- the lesser of two numbers, where the one or the other need not be there
abbrev pub nearer : Option ℕ → Option ℕ → Option ℕ
nearer None other = other
nearer (Some one) None = Some one
nearer (Some one) (Some other) = Some (min one other)

-- how far the greatest value of a range below 0, and the least of one from 0 on, lies from 0
abbrev pub depth_of : Option Between → Option ℕ
depth_of None = None
depth_of (Some b) = Some (unsigned_abs b.greatest)

abbrev pub height_of : Option Between → Option ℕ
height_of None = None
height_of (Some b) = Some (unsigned_abs b.least)

-- the least absolute value that costs others
abbrev pub nearest : Margin → Option ℕ
nearest margin = nearer (depth_of margin.below) (height_of margin.above)

-- none, and a sweep with others
abbrev pub no_sweeps : Total
no_sweeps = record { sweeps = 0; values = 0; counts = no_values; free = None; least = None; most = 0 }

abbrev pub total_with : Margin → Total → Total
total_with margin total = record {
  sweeps = suc total.sweeps;
  values = count_of_values margin.counts + total.values;
  counts = counts_with margin.counts total.counts;
  free = common margin.free total.free;
  least = nearer (nearest margin) total.least;
  most = max margin.most total.most;
}

abbrev pub total_of : List Margin → Total
total_of [] = no_sweeps
total_of (margin ∷ margins) = total_with margin (total_of margins)
