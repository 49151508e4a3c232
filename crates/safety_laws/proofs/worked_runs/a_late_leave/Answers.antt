use Rattle.safety_laws.proofs.Words.{refl, members_in, with_node}
use Rattle.safety_laws.proofs.worked_runs.a_late_leave.Goals as goal

pub returns-clause-keeps : goal.returns-clause-keeps
unfolding members_in with_node
returns-clause-keeps c = refl

pub returns-clause-stays : goal.returns-clause-stays
unfolding members_in with_node
returns-clause-stays c = refl

pub returns-clause-left : goal.returns-clause-left
unfolding members_in with_node
returns-clause-left c = refl
