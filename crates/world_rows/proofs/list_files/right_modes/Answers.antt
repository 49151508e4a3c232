use Rattle.std.proofs.Common.{refl}
use Rattle.world_rows.proofs.OnLiterals.{lists_on_literals}
use Rattle.world_rows.proofs.list_files.right_modes.Goals as goal

pub returns : goal.returns
unfolding lists_on_literals
returns c = record {
  all_of_eight = refl;
  none_of_one = refl;
  asking_for_none = refl;
  asking_plan = refl;
  asking_list = refl;
  asking_without_fault = refl;
}
