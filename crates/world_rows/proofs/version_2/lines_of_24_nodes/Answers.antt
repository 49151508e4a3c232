use Rattle.std.proofs.Common.{refl}
use Rattle.world_rows.proofs.OnLiterals.{runs_on_literals}
use Rattle.world_rows.proofs.version_2.lines_of_24_nodes.Goals as goal

pub returns : goal.returns
unfolding runs_on_literals
returns c = record { head = refl; line = refl; keeps = refl }
