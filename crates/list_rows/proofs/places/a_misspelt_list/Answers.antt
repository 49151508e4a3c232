use Rattle.std.proofs.Common.{refl}
use Rattle.list_rows.proofs.OnLiterals.{on_literals}
use Rattle.list_rows.proofs.places.a_misspelt_list.Goals as goal

pub returns : goal.returns
unfolding on_literals
returns c = refl
