use Rattle.std.proofs.Common.{refl}
use Rattle.cause_rows.proofs.OnLiterals.{on_literals}
use Rattle.cause_rows.proofs.words.off_and_listening.Goals as goal

pub returns : goal.returns
unfolding on_literals
returns c = record { off = refl; never = refl; wait = refl; start = refl; join = refl }
