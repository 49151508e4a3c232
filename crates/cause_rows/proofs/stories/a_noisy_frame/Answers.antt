use Rattle.std.proofs.Common.{refl}
use Rattle.cause_rows.proofs.OnLiterals.{on_literals}
use Rattle.cause_rows.proofs.stories.a_noisy_frame.Goals as goal

pub returns : goal.returns
unfolding on_literals
returns c = record { node_4 = refl }
