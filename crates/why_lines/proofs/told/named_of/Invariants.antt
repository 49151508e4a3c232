use Rattle.std.proofs.Common.{◌≡◌, take, filter}
use Rattle.causes.specs.Story.{has_spot}
use Rattle.why_lines.proofs.told.named_of.Given as goal

-- those so far
abbrev pub invariant-loop-spot : goal.invariant-loop-spot
invariant-loop-spot l = l.named ≡ filter (has_spot l.entries) (take l.spot-index l.spots)
