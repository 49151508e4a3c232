use Rattle.std.proofs.Common.{refl}
use Rattle.pair_rows.proofs.OnLiterals.{on_literals}
use Rattle.pair_rows.proofs.runs.a_whole_text.Goals as goal

pub returns : goal.returns
unfolding on_literals
returns c = refl
