use Rattle.std.proofs.Common.{refl}
use Rattle.world_rows.proofs.OnLiterals.{runs_on_literals}
use Rattle.world_rows.proofs.returning.nothing_to_join_on.Goals as goal

pub returns : goal.returns
unfolding runs_on_literals
returns c = record { implicit_frames = refl; short_run = refl }
