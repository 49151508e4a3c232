use Rattle.std.proofs.Common.{refl}
use Rattle.world_rows.proofs.OnLiterals.{runs_on_literals}
use Rattle.world_rows.proofs.starts.late_node.Goals as goal

pub returns : goal.returns
unfolding runs_on_literals
returns c = record { lines = refl; members = refl; keeps = refl }
