use Rattle.std.proofs.Common.{refl}
use Rattle.list_rows.proofs.OnLiterals.{on_literals}
use Rattle.list_rows.proofs.places.elements_of_an_array.Goals as goal

pub returns : goal.returns
unfolding on_literals
returns c = refl
