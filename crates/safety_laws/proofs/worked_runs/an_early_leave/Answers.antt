use Rattle.safety_laws.proofs.Words.{refl, members_in, with_node}
use Rattle.safety_laws.proofs.worked_runs.an_early_leave.Goals as goal

pub returns-clause-keeps : goal.returns-clause-keeps
unfolding members_in with_node
returns-clause-keeps c = refl

pub returns-clause-waits : goal.returns-clause-waits
unfolding members_in with_node
returns-clause-waits c = refl

pub returns-clause-left : goal.returns-clause-left
unfolding members_in with_node
returns-clause-left c = refl
