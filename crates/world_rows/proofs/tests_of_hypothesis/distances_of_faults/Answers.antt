use Rattle.std.proofs.Common.{refl}
use Rattle.world_rows.proofs.OnLiterals.{runs_on_literals}
use Rattle.world_rows.proofs.tests_of_hypothesis.distances_of_faults.Goals as goal

pub returns : goal.returns
unfolding runs_on_literals
returns c = record { too_close = refl; far_enough = refl; too_early = refl }
