use Rattle.std.proofs.Common.{refl}
use Rattle.cause_rows.proofs.OnLiterals.{on_literals}
use Rattle.cause_rows.proofs.stories.flipped_bits.Goals as goal

pub returns : goal.returns
unfolding on_literals
returns c = record { node_3 = refl; node_4 = refl; node_0 = refl }
