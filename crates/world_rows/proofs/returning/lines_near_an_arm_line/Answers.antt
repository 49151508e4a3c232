use Rattle.std.proofs.Common.{refl}
use Rattle.world_rows.proofs.OnLiterals.{runs_on_literals}
use Rattle.world_rows.proofs.returning.lines_near_an_arm_line.Goals as goal

pub returns : goal.returns
unfolding runs_on_literals
returns c = record {
  again = refl;
  another = refl;
  another_later = refl;
  own_line = refl;
  unheard = refl;
  heard_on_one = refl;
}
