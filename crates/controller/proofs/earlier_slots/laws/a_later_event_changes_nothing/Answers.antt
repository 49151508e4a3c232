use Rattle.controller.proofs.LaterEvents.{agree-more}
use Rattle.controller.proofs.earlier_slots.laws.a_later_event_changes_nothing.Goals as goal

pub returns : goal.returns
returns c script more slot later = agree-more script more slot later
