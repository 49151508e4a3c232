use Rattle.std.proofs.Common.{refl}
use Rattle.list_rows.proofs.OnLiterals.{on_literals}
use Rattle.list_rows.proofs.places.keys_and_headers.Goals as goal

pub returns : goal.returns
unfolding on_literals
returns c = record { few = refl; headers = refl }
