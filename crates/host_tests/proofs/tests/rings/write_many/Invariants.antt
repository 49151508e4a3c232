use Rattle.std.proofs.Common.{◌≡◌}
use Rattle.host_tests.proofs.tests.rings.write_many.Given as goal

abbrev pub invariant-loop : goal.invariant-loop
invariant-loop l = l.writer.ring ≡ l.ring
