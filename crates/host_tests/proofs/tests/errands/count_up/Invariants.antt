use Rattle.std.proofs.Common.{◌≡◌}
use Rattle.host_tests.proofs.tests.errands.count_up.Given as goal

abbrev pub invariant-loop-i : goal.invariant-loop-i
invariant-loop-i g l = (l.front.count ≡ l.i) × (l.back.count ≡ l.i)
