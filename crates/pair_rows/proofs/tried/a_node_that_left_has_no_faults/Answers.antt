use Rattle.std.proofs.Common.{refl}
use Rattle.pair_rows.proofs.OnLiterals.{on_literals}
use Rattle.pair_rows.proofs.tried.a_node_that_left_has_no_faults.Goals as goal

pub returns : goal.returns
unfolding on_literals
returns c = record { all = refl; own = refl }
