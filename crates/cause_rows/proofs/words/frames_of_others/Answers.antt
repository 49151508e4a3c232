use Rattle.std.proofs.Common.{refl}
use Rattle.cause_rows.proofs.OnLiterals.{on_literals}
use Rattle.cause_rows.proofs.words.frames_of_others.Goals as goal

pub returns : goal.returns
unfolding on_literals
returns c = record { correct = refl; null = refl; incorrect = refl; invalid = refl; tentative = refl; settled = refl }
