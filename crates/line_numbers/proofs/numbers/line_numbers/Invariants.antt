use Rattle.std.proofs.Common.{length}
use Rattle.line_numbers.proofs.Reading.{IsReading}
use Rattle.line_numbers.proofs.numbers.line_numbers.Given as goal

abbrev pub invariant-loop-cut : goal.invariant-loop-cut
invariant-loop-cut l = IsReading l.nodes l.bytes l.so_far l.number l.rest

abbrev pub decreases-loop-cut : goal.decreases-loop-cut
decreases-loop-cut l = length l.rest
