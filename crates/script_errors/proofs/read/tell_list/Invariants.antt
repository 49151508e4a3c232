use Rattle.std.proofs.Common.{◌≡◌, length}
use Rattle.script_errors.proofs.Reading.{IsLooking}
use Rattle.script_errors.proofs.read.tell_list.Given as goal

abbrev pub invariant-loop-line : goal.invariant-loop-line
invariant-loop-line l = IsLooking l.text l.number l.rest × (l.found ≡ l.fn.found)

abbrev pub decreases-loop-line : goal.decreases-loop-line
decreases-loop-line l = length l.rest
