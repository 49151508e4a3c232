use Rattle.std.proofs.Common.{refl}
use Rattle.pair_rows.proofs.OnLiterals.{on_literals}
use Rattle.pair_rows.proofs.runs.what_four_nodes_do_not_bear.Goals as goal

pub returns : goal.returns
unfolding on_literals
returns c = record { torn = refl; dead = refl }
