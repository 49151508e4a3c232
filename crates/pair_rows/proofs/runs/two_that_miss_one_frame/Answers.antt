use Rattle.std.proofs.Common.{refl}
use Rattle.pair_rows.proofs.OnLiterals.{on_literals}
use Rattle.pair_rows.proofs.runs.two_that_miss_one_frame.Goals as goal

pub returns : goal.returns
unfolding on_literals
returns c = record { class = refl; yes = refl }
