use Rattle.std.proofs.Common.{length}
use Rattle.script_errors.proofs.Reading.{IsReading}
use Rattle.script_errors.proofs.read.tell_lines.Given as goal

abbrev pub invariant-loop-line : goal.invariant-loop-line
invariant-loop-line l = IsReading l.list l.text l.fn.found l.so_far l.said l.number l.rest l.found

abbrev pub decreases-loop-line : goal.decreases-loop-line
decreases-loop-line l = length l.rest
