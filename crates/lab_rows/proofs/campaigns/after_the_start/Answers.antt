use Rattle.std.proofs.Common.{refl}
use Rattle.lab_rows.proofs.OnLiterals.{lines_on_literals}
use Rattle.lab_rows.proofs.campaigns.after_the_start.Goals as goal

pub returns : goal.returns
unfolding lines_on_literals
returns c = record { deaf = refl; noise = refl }
