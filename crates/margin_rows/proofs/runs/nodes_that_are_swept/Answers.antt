use Rattle.std.proofs.Common.{refl}
use Rattle.margin_rows.proofs.OnLiterals.{on_literals}
use Rattle.margin_rows.proofs.runs.nodes_that_are_swept.Goals as goal

pub returns : goal.returns
unfolding on_literals
returns c = record { drifts = refl; jumps = refl; split = refl }
