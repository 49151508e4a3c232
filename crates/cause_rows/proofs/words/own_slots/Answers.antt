use Rattle.std.proofs.Common.{refl}
use Rattle.cause_rows.proofs.OnLiterals.{on_literals}
use Rattle.cause_rows.proofs.words.own_slots.Goals as goal

pub returns : goal.returns
unfolding on_literals
returns c = record { send = refl; denied = refl; gone = refl; clique = refl; unacknowledged = refl }
