use Rattle.std.proofs.Common.{refl}
use Rattle.cause_rows.proofs.OnLiterals.{on_literals}
use Rattle.cause_rows.proofs.stories.a_jump.Goals as goal

pub returns : goal.returns
unfolding on_literals
returns c = record { node_2 = refl; own_slot = refl; node_3 = refl }
