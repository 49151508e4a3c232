use Rattle.std.proofs.Common.{refl}
use Rattle.pair_rows.proofs.OnLiterals.{on_literals}
use Rattle.pair_rows.proofs.runs.a_frame_that_nobody_hears.Goals as goal

pub returns : goal.returns
unfolding on_literals
returns c = record { class = refl; yes = refl }
