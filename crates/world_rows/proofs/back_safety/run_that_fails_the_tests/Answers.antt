use Rattle.std.proofs.Common.{refl}
use Rattle.world_rows.proofs.OnLiterals.{runs_on_literals}
use Rattle.world_rows.proofs.back_safety.run_that_fails_the_tests.Goals as goal

pub returns : goal.returns
unfolding runs_on_literals
returns c = (refl, refl, refl)
