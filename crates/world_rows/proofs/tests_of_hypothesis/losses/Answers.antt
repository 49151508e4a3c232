use Rattle.std.proofs.Common.{refl}
use Rattle.world_rows.proofs.OnLiterals.{runs_on_literals}
use Rattle.world_rows.proofs.tests_of_hypothesis.losses.Goals as goal

pub returns : goal.returns
unfolding runs_on_literals
returns c = record { two = refl; one = refl; all = refl; own_frame = refl }
