use Rattle.safety_laws.proofs.NodeSlots.{node_past-step, entry_of-made, frames_of-made}
use Rattle.safety_laws.proofs.WorldTurns.{IsJudging-world, IsAtOwnSlot-world}
use Rattle.safety_laws.proofs.slots.one_slot.Goals as goal

pub returns-clause-past : goal.returns-clause-past
returns-clause-past c = node_past-step

pub returns-clause-entry : goal.returns-clause-entry
returns-clause-entry c = entry_of-made

pub returns-clause-frames : goal.returns-clause-frames
returns-clause-frames c = frames_of-made

pub returns-clause-judging : goal.returns-clause-judging
returns-clause-judging c = IsJudging-world

pub returns-clause-own : goal.returns-clause-own
returns-clause-own c = IsAtOwnSlot-world
