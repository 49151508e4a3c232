use Rattle.std.proofs.Common.{refl}
use Rattle.list_rows.proofs.OnLiterals.{on_literals}
use Rattle.list_rows.proofs.places.lines_and_columns.Goals as goal

pub returns : goal.returns
unfolding on_literals
returns c = record { first = refl; feed = refl; tab = refl; end = refl; carriage_return = refl }
