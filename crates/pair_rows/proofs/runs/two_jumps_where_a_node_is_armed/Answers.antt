use Rattle.std.proofs.Common.{refl}
use Rattle.pair_rows.proofs.OnLiterals.{on_literals}
use Rattle.pair_rows.proofs.runs.two_jumps_where_a_node_is_armed.Goals as goal

pub returns : goal.returns
unfolding on_literals
returns c = refl
