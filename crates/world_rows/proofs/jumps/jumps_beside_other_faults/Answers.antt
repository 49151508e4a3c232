use Rattle.std.proofs.Common.{refl}
use Rattle.world_rows.proofs.OnLiterals.{runs_on_literals}
use Rattle.world_rows.proofs.jumps.jumps_beside_other_faults.Goals as goal

pub returns : goal.returns
unfolding runs_on_literals
returns c = record {
  two_at_once = refl;
  too_close = refl;
  far_apart = refl;
  with_a_loss = refl;
  of_the_sender = refl;
  of_the_receiver = refl;
  of_one_of_two_receivers = refl;
  then_deaf = refl;
  one_of_four = refl;
  one_of_five = refl;
}
