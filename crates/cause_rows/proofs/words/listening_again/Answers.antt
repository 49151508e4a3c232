use Rattle.std.proofs.Common.{refl}
use Rattle.cause_rows.proofs.OnLiterals.{on_literals}
use Rattle.cause_rows.proofs.words.listening_again.Goals as goal

pub returns : goal.returns
unfolding on_literals
returns c = record { wait = refl; retry = refl; start = refl }
