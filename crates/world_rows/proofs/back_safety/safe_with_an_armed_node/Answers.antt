use Rattle.std.proofs.Common.{refl}
use Rattle.world_rows.proofs.OnLiterals.{runs_on_literals}
use Rattle.world_rows.proofs.back_safety.safe_with_an_armed_node.Goals as goal

pub returns : goal.returns
unfolding runs_on_literals
returns c = (
  record { agree = refl; senders = refl; stay = refl; faulty = refl; returned = refl },
  record { agree = refl; senders = refl; stay = refl; faulty = refl; returned = refl },
  refl,
  refl,
  record { agree = refl; senders = refl; stay = refl; faulty = refl; returned = refl },
  refl,
)
