use Rattle.trace_check.proofs.Words.{◌≡◌, replicate}
use Rattle.trace_check.proofs.incoming.first_floors.Given as goal

abbrev pub invariant-loop : goal.invariant-loop
invariant-loop l = l.floors ≡ replicate l.counter 0
