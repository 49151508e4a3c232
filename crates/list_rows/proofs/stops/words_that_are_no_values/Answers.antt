use Rattle.std.proofs.Common.{refl}
use Rattle.list_rows.proofs.OnLiterals.{on_literals}
use Rattle.list_rows.proofs.stops.words_that_are_no_values.Goals as goal

pub returns : goal.returns
unfolding on_literals
returns c = record {
  unit = refl;
  near_true = refl;
  near_false = refl;
  large = refl;
  zero = refl;
  word = refl;
  date = refl;
  string = refl;
}
