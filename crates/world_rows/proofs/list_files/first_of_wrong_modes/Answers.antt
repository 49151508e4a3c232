use Rattle.std.proofs.Common.{refl}
use Rattle.world_rows.proofs.OnLiterals.{lists_on_literals}
use Rattle.world_rows.proofs.list_files.first_of_wrong_modes.Goals as goal

pub returns : goal.returns
unfolding lists_on_literals
returns c = record {
  slots_before_modes = refl;
  modes_before_their_number = refl;
  data_before_requests = refl;
  start_before_requests = refl;
  requests_before_live = refl;
  first_slot = refl;
  live_before_unknown = refl;
}
