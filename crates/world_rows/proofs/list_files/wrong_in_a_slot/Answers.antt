use Rattle.std.proofs.Common.{refl}
use Rattle.world_rows.proofs.OnLiterals.{lists_on_literals}
use Rattle.world_rows.proofs.list_files.wrong_in_a_slot.Goals as goal

pub returns : goal.returns
unfolding lists_on_literals
returns c = record {
  two_letters_for_one = refl;
  payload_of_no_frame = refl;
  too_much_payload = refl;
  unknown_before_sync = refl;
  three_with_sync = refl;
}
