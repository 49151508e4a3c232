use Rattle.safety_laws.proofs.Idle.{frames_made-judging, idle-off, idle-left}
use Rattle.safety_laws.proofs.slots.idle.Goals as goal

pub returns-clause-judging : goal.returns-clause-judging
returns-clause-judging c = frames_made-judging

pub returns-clause-off : goal.returns-clause-off
returns-clause-off c = idle-off

pub returns-clause-left : goal.returns-clause-left
returns-clause-left c = idle-left
