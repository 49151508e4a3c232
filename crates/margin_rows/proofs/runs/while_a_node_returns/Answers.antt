use Rattle.std.proofs.Common.{refl}
use Rattle.margin_rows.proofs.OnLiterals.{on_literals}
use Rattle.margin_rows.proofs.runs.while_a_node_returns.Goals as goal

pub returns : goal.returns
unfolding on_literals
returns c = refl
