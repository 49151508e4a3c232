use Rattle.std.proofs.Common.{refl}
use Rattle.world_rows.proofs.OnLiterals.{runs_on_literals}
use Rattle.world_rows.proofs.jumps.jumps_of_four_windows.Goals as goal

pub returns : goal.returns
unfolding runs_on_literals
returns c = record {
  ahead = refl;
  back = refl;
  less_back = refl;
  five_ahead = refl;
  five_less_ahead = refl;
  five_back = refl;
  five_less_back = refl;
}
