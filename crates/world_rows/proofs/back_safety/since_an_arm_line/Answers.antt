use Rattle.std.proofs.Common.{refl}
use Rattle.world_rows.proofs.OnLiterals.{runs_on_literals}
use Rattle.world_rows.proofs.back_safety.since_an_arm_line.Goals as goal

pub returns : goal.returns
unfolding runs_on_literals
returns c = record {
  never = refl;
  newest = refl;
  has_left = (refl, refl);
  sent = refl;
  left = refl;
  joined = refl;
  sent_again = refl;
}
