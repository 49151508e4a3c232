use Rattle.std.proofs.Common.{refl}
use Rattle.list_rows.proofs.OnLiterals.{on_literals}
use Rattle.list_rows.proofs.stops.texts_to_their_end.Goals as goal

pub returns : goal.returns
unfolding on_literals
returns c = record { all = refl; implicit = refl; elements = refl; mark = refl }
