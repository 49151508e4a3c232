use Rattle.std.proofs.Common.{refl}
use Rattle.lab_rows.proofs.OnLiterals.{lines_on_literals}
use Rattle.lab_rows.proofs.campaigns.a_second_fault.Goals as goal

pub returns : goal.returns
unfolding lines_on_literals
returns c = record { own = refl; second = refl }
