use Rattle.std.proofs.Common.{refl}
use Rattle.margin_rows.proofs.OnLiterals.{on_literals}
use Rattle.margin_rows.proofs.runs.a_clock_behind_the_start.Goals as goal

pub returns : goal.returns
unfolding on_literals
returns c = refl
