use Rattle.std.proofs.Common.{refl}
use Rattle.list_rows.proofs.OnLiterals.{on_literals}
use Rattle.list_rows.proofs.stops.keys_that_come_twice.Goals as goal

pub returns : goal.returns
unfolding on_literals
returns c = record {
  key = refl;
  dotted = refl;
  in_value = refl;
  member = refl;
  header = refl;
  single = refl;
  double = refl;
  through = refl;
}
