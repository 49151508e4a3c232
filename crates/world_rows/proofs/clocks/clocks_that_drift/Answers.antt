use Rattle.std.proofs.Common.{refl}
use Rattle.world_rows.proofs.OnLiterals.{runs_on_literals}
use Rattle.world_rows.proofs.clocks.clocks_that_drift.Goals as goal

pub returns : goal.returns
unfolding runs_on_literals
returns c = record {
  at_the_start = refl;
  first_notes = refl;
  first_correction = refl;
  second_notes = refl;
  second_correction = refl;
  keeps = refl;
  narrow_window = refl;
}
