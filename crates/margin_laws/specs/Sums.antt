-- What some sweeps and others come to.
use Rattle.std.specs.Prelude.{◌+◌, max}
use Rattle.clock_margins.specs.declared.margin.Total.{Total}
use Rattle.clock_margins.specs.Sums.{counts_with, common, nearer}

-- sums, what is free in both, the nearer least value and the greater most
abbrev pub totals_together : Total → Total → Total
totals_together one other = record {
  sweeps = one.sweeps + other.sweeps;
  values = one.values + other.values;
  counts = counts_with one.counts other.counts;
  free = common one.free other.free;
  least = nearer one.least other.least;
  most = max one.most other.most;
}
