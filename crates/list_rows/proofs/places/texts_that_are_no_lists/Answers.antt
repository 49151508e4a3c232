use Rattle.std.proofs.Common.{refl}
use Rattle.list_rows.proofs.OnLiterals.{on_literals}
use Rattle.list_rows.proofs.places.texts_that_are_no_lists.Goals as goal

pub returns : goal.returns
unfolding on_literals
returns c = record { stop = refl; why = refl; script = refl; none = refl }
