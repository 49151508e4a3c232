use Rattle.std.proofs.Common.{refl}
use Rattle.world_rows.proofs.OnLiterals.{runs_on_literals}
use Rattle.world_rows.proofs.faults.four_left_with_three.Goals as goal

pub returns : goal.returns
unfolding runs_on_literals
returns c = record { line = refl; members = refl; keeps = refl }
