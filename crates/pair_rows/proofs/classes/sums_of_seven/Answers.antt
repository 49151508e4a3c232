use Rattle.std.proofs.Common.{refl}
use Rattle.pair_rows.proofs.OnLiterals.{on_literals}
use Rattle.pair_rows.proofs.classes.sums_of_seven.Goals as goal

pub returns : goal.returns
unfolding on_literals
returns c = record { all = refl; apart = refl; lines = refl; told = refl }
