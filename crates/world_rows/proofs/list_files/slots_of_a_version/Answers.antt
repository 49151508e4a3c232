use Rattle.std.proofs.Common.{refl}
use Rattle.world_rows.proofs.OnLiterals.{lists_on_literals}
use Rattle.world_rows.proofs.list_files.slots_of_a_version.Goals as goal

pub returns : goal.returns
unfolding lists_on_literals
returns c = record {
  sixteen = refl;
  seventeen = refl;
  wide_three = refl;
  wide_seventeen = refl;
  wide_twenty_four = refl;
  wide_twenty_five = refl;
  version_3 = refl;
}
