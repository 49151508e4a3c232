use Rattle.std.proofs.Common.{refl}
use Rattle.world_rows.proofs.OnLiterals.{runs_on_literals}
use Rattle.world_rows.proofs.returning.faults_near_an_arm_line.Goals as goal

pub returns : goal.returns
unfolding runs_on_literals
returns c = record { near = refl; after = refl; faulty_still = refl; faulty_no_longer = refl }
