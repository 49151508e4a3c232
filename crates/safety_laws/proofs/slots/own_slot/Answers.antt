use Rattle.safety_laws.proofs.OwnSlots.{sent-own, frames_made-own, IsSlotFrame-own, left-unacknowledged, left-clique}
use Rattle.safety_laws.proofs.OwnSlots.{retried-own}
use Rattle.safety_laws.proofs.slots.own_slot.Goals as goal

pub returns-clause-sends : goal.returns-clause-sends
returns-clause-sends c = sent-own

pub returns-clause-frame : goal.returns-clause-frame
returns-clause-frame c = frames_made-own

pub returns-clause-members : goal.returns-clause-members
returns-clause-members c = IsSlotFrame-own

pub returns-clause-unacknowledged : goal.returns-clause-unacknowledged
returns-clause-unacknowledged c = left-unacknowledged

pub returns-clause-clique : goal.returns-clause-clique
returns-clause-clique c = left-clique

pub returns-clause-retries : goal.returns-clause-retries
returns-clause-retries c = retried-own
