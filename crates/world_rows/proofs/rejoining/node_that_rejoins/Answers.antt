use Rattle.std.proofs.Common.{refl}
use Rattle.world_rows.proofs.OnLiterals.{runs_on_literals}
use Rattle.world_rows.proofs.rejoining.node_that_rejoins.Goals as goal

pub returns : goal.returns
unfolding runs_on_literals
returns c = record { lines = refl; keeps = refl; armed_earlier = refl; narrow_window = refl }
