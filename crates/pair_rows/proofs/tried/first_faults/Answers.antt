use Rattle.std.proofs.Common.{refl}
use Rattle.pair_rows.proofs.OnLiterals.{on_literals}
use Rattle.pair_rows.proofs.tried.first_faults.Goals as goal

pub returns : goal.returns
unfolding on_literals
returns c = record { slot = refl; past = refl }
