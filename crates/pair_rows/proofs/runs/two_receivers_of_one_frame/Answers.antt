use Rattle.std.proofs.Common.{refl}
use Rattle.pair_rows.proofs.OnLiterals.{on_literals}
use Rattle.pair_rows.proofs.runs.two_receivers_of_one_frame.Goals as goal

pub returns : goal.returns
unfolding on_literals
returns c = refl
