use Rattle.std.proofs.Common.{refl}
use Rattle.world_rows.proofs.OnLiterals.{lists_on_literals}
use Rattle.world_rows.proofs.list_files.wrong_modes.Goals as goal

pub returns : goal.returns
unfolding lists_on_literals
returns c = record {
  no_modes = refl;
  nine_modes = refl;
  text_for_modes = refl;
  number_for_requests = refl;
  requests_without_data = refl;
  flag_for_live = refl;
  live_in_no_mode = refl;
  live_in_two_of_one = refl;
  live_in_one_of_two = refl;
  live_of_another_letter = refl;
}
