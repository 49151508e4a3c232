use Rattle.std.proofs.Common.{refl}
use Rattle.lab_rows.proofs.OnLiterals.{lines_on_literals}
use Rattle.lab_rows.proofs.campaigns.a_faulty_sender.Goals as goal

pub returns : goal.returns
unfolding lines_on_literals
returns c = record { lost = refl; far = refl; near = refl }
