use Rattle.safety_laws.proofs.Members.{sound-member, fallen-member, sender-lost, members-nodes}
use Rattle.safety_laws.proofs.fault_plan.laws.members_known.Goals as goal

pub returns-clause-sound : goal.returns-clause-sound
returns-clause-sound c = sound-member

pub returns-clause-fallen : goal.returns-clause-fallen
returns-clause-fallen c = fallen-member

pub returns-clause-falling : goal.returns-clause-falling
returns-clause-falling c = sender-lost

pub returns-clause-nodes : goal.returns-clause-nodes
returns-clause-nodes c = members-nodes
