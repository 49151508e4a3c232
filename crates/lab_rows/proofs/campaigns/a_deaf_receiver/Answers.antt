use Rattle.std.proofs.Common.{refl}
use Rattle.lab_rows.proofs.OnLiterals.{lines_on_literals}
use Rattle.lab_rows.proofs.campaigns.a_deaf_receiver.Goals as goal

pub returns : goal.returns
unfolding lines_on_literals
returns c = record { once = refl; on_one_channel = refl; for_good = refl }
