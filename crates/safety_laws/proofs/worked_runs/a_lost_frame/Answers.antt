use Rattle.safety_laws.proofs.Words.{refl, members_in, with_node}
use Rattle.safety_laws.proofs.worked_runs.a_lost_frame.Goals as goal

pub returns-clause-keeps : goal.returns-clause-keeps
unfolding members_in with_node
returns-clause-keeps c = refl

pub returns-clause-legal : goal.returns-clause-legal
unfolding members_in with_node
returns-clause-legal c = refl

pub returns-clause-members : goal.returns-clause-members
unfolding members_in with_node
returns-clause-members c = refl

pub returns-clause-sender : goal.returns-clause-sender
unfolding members_in with_node
returns-clause-sender c = refl

pub returns-clause-safe : goal.returns-clause-safe
unfolding members_in with_node
returns-clause-safe c = record { agree = refl; senders = refl; stay = refl; faulty = refl }

pub returns-clause-left : goal.returns-clause-left
unfolding members_in with_node
returns-clause-left c = refl
