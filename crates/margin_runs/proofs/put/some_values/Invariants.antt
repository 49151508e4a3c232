use Rattle.std.proofs.Common.{◌≡◌, pos, ◌+ℤ◌}
use Rattle.std.specs.Prelude.{neg_ℤ}
use Rattle.clock_margins.specs.Sweeps.{values_from}
use Rattle.margin_runs.proofs.put.some_values.Given as goal

-- the first ones are there
abbrev pub invariant-loop-place : goal.invariant-loop-place
invariant-loop-place l = l.values.items ≡ values_from (neg_ℤ (pos l.reach) +ℤ pos l.done) l.place
