use Rattle.std.proofs.Common.{refl}
use Rattle.world_rows.proofs.OnLiterals.{runs_on_literals}
use Rattle.world_rows.proofs.returning.owed_its_place.Goals as goal

pub returns : goal.returns
unfolding runs_on_literals
returns c = record { owed = refl; too_early = refl; narrow_window = refl }
