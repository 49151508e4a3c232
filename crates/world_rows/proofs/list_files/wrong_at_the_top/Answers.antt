use Rattle.std.proofs.Common.{refl}
use Rattle.world_rows.proofs.OnLiterals.{lists_on_literals}
use Rattle.world_rows.proofs.list_files.wrong_at_the_top.Goals as goal

pub returns : goal.returns
unfolding lists_on_literals
returns c = record {
  right = refl;
  text_for_a_number = refl;
  past_the_range = refl;
  no_slots = refl;
  numbers_for_slots = refl;
}
