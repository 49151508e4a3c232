use Rattle.safety_laws.proofs.Members.{first-sender}
use Rattle.safety_laws.proofs.Persists.{sound-first}
use Rattle.safety_laws.proofs.Places.{place-sender}
use Rattle.safety_laws.proofs.Turns.{next_turn, turns_apart}
use Rattle.safety_laws.proofs.fault_plan.laws.turns_known.Goals as goal

pub returns-clause-next : goal.returns-clause-next
returns-clause-next c = next_turn

pub returns-clause-apart : goal.returns-clause-apart
returns-clause-apart c = turns_apart

pub returns-clause-place : goal.returns-clause-place
returns-clause-place c = place-sender

pub returns-clause-first : goal.returns-clause-first
returns-clause-first c = first-sender

pub returns-clause-sound : goal.returns-clause-sound
returns-clause-sound c = sound-first
