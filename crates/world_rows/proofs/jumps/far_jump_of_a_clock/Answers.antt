use Rattle.std.proofs.Common.{refl}
use Rattle.world_rows.proofs.OnLiterals.{runs_on_literals}
use Rattle.world_rows.proofs.jumps.far_jump_of_a_clock.Goals as goal

pub returns : goal.returns
unfolding runs_on_literals
returns c = record { run = (refl, refl, refl); keeps = refl }
