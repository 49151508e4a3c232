use Rattle.std.proofs.Common.{refl}
use Rattle.list_rows.proofs.OnLiterals.{on_literals}
use Rattle.list_rows.proofs.stops.another_part.Goals as goal

pub returns : goal.returns
unfolding on_literals
returns c = record {
  key = refl;
  equals = refl;
  header = refl;
  element_header = refl;
  element = refl;
  member = refl;
  line = refl;
  value = refl;
}
