use Rattle.std.proofs.Common.{◌≡◌, drop}
use Rattle.clock_margins.specs.Ranges.{are_same_sets}
use Rattle.margin_text.proofs.range.are_same_sets.Given as goal

-- those so far are the same
abbrev pub invariant-loop-place : goal.invariant-loop-place
invariant-loop-place l = are_same_sets l.one l.other ≡ are_same_sets (drop l.place l.one) (drop l.place l.other)
