use Rattle.std.proofs.Common.{◌≡◌, ◌≤◌, length, drop, map}
use Rattle.std.specs.Prelude.{reverse}
use Rattle.why_lines.proofs.told.spots_of.Given as goal

-- those from here on
abbrev pub invariant-loop-place : goal.invariant-loop-place
invariant-loop-place l = (l.place ≤ length l.told) × (l.spots ≡ reverse (map (λ t. t.spot) (drop l.place l.told)))

abbrev pub decreases-loop-place : goal.decreases-loop-place
decreases-loop-place l = l.place
