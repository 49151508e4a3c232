use Rattle.std.proofs.Common.{refl}
use Rattle.world_rows.proofs.OnLiterals.{runs_on_literals}
use Rattle.world_rows.proofs.starts.fault_free_start.Goals as goal

pub returns : goal.returns
unfolding runs_on_literals
returns c = record {
  lines = refl;
  run = (refl, refl, record { agree = refl; senders = refl; stay = refl; faulty = refl }, refl);
}
