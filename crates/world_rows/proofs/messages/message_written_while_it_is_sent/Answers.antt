use Rattle.std.proofs.Common.{refl}
use Rattle.world_rows.proofs.OnLiterals.{runs_on_literals}
use Rattle.world_rows.proofs.messages.message_written_while_it_is_sent.Goals as goal

pub returns : goal.returns
unfolding runs_on_literals
returns c = record { frame = refl; write = refl; new_read = refl; zeros_sent = refl; old_read = refl }
