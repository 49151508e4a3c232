use Rattle.std.proofs.Common.{refl}
use Rattle.world_rows.proofs.OnLiterals.{runs_on_literals}
use Rattle.world_rows.proofs.messages.legal_numbers.Goals as goal

pub returns : goal.returns
unfolding runs_on_literals
returns c = record {
  any = refl;
  old_old = refl;
  old_new = refl;
  new_old = refl;
  new_new = refl;
  not_written = refl;
  older_than_the_slot = refl;
  not_delivered = refl;
}
