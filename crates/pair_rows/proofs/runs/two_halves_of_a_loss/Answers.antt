use Rattle.std.proofs.Common.{refl}
use Rattle.pair_rows.proofs.OnLiterals.{on_literals}
use Rattle.pair_rows.proofs.runs.two_halves_of_a_loss.Goals as goal

pub returns : goal.returns
unfolding on_literals
returns c = record { class = refl; yes = refl }
