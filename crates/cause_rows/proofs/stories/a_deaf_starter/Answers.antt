use Rattle.std.proofs.Common.{refl}
use Rattle.cause_rows.proofs.OnLiterals.{on_literals}
use Rattle.cause_rows.proofs.stories.a_deaf_starter.Goals as goal

pub returns : goal.returns
unfolding on_literals
returns c = record { node_1 = refl; node_2 = refl }
