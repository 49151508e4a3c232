use Rattle.trace_check.proofs.Words.{◌≡◌, replicate}
use Rattle.trace_check.proofs.incoming.first_statuses.Given as goal

abbrev pub invariant-loop : goal.invariant-loop
invariant-loop l = l.statuses ≡ replicate l.counter (record { words = replicate 4 0 })
