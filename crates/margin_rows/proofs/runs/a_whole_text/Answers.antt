use Rattle.std.proofs.Common.{refl}
use Rattle.margin_rows.proofs.OnLiterals.{on_literals}
use Rattle.margin_rows.proofs.runs.a_whole_text.Goals as goal

pub returns : goal.returns
unfolding on_literals
returns c = record { drifts = refl; none = refl }
