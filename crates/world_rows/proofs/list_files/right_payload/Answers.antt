use Rattle.std.proofs.Common.{refl}
use Rattle.world_rows.proofs.OnLiterals.{lists_on_literals}
use Rattle.world_rows.proofs.list_files.right_payload.Goals as goal

pub returns : goal.returns
unfolding lists_on_literals
returns c = record { most_and_none = refl }
