use Rattle.std.proofs.Common.{refl}
use Rattle.world_rows.proofs.OnLiterals.{runs_on_literals}
use Rattle.world_rows.proofs.faults.deaf_receiver_leaves_for_clique.Goals as goal

pub returns : goal.returns
unfolding runs_on_literals
returns c = record { run = (refl, refl); keeps = refl }
