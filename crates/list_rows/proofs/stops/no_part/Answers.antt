use Rattle.std.proofs.Common.{refl}
use Rattle.list_rows.proofs.OnLiterals.{on_literals}
use Rattle.list_rows.proofs.stops.no_part.Goals as goal

pub returns : goal.returns
unfolding on_literals
returns c = record { file_end = refl; line_end = refl; carriage_return = refl; quote = refl }
