use Rattle.script_text.proofs.Terms.{length}
use Rattle.script_text.proofs.Reading.{IsReading}
use Rattle.script_text.proofs.read.take_lines.Given as goal

abbrev pub invariant-loop-cut : goal.invariant-loop-cut
invariant-loop-cut l = IsReading l.list l.text l.so_far l.number l.rest

abbrev pub decreases-loop-cut : goal.decreases-loop-cut
decreases-loop-cut l = length l.rest
