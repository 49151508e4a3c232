use Rattle.trace_check.proofs.Words.{◌≡◌, first_payloads}
use Rattle.trace_check.proofs.incoming.first_payloads.Given as goal

abbrev pub invariant-loop : goal.invariant-loop
invariant-loop l = l.payloads ≡ first_payloads l.list l.counter
