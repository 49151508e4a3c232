use Rattle.std.proofs.Common.{◌≡◌}
use Rattle.host_tests.proofs.tests.rings.attempt_many.Given as goal

abbrev pub invariant-loop : goal.invariant-loop
invariant-loop l = l.reader.ring ≡ l.ring
