use Rattle.std.proofs.Common.{refl}
use Rattle.world_rows.proofs.OnLiterals.{runs_on_literals}
use Rattle.world_rows.proofs.faults.faults_split_over_the_channels.Goals as goal

pub returns : goal.returns
unfolding runs_on_literals
returns c = record { same_diaries = refl; lines = refl; keeps = refl }
