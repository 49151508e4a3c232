use Rattle.safety_laws.proofs.Words.{refl, members_in, with_node}
use Rattle.safety_laws.proofs.worked_runs.a_doubt.Goals as goal

pub returns-clause-keeps : goal.returns-clause-keeps
unfolding members_in with_node
returns-clause-keeps c = refl

pub returns-clause-legal : goal.returns-clause-legal
unfolding members_in with_node
returns-clause-legal c = refl

pub returns-clause-doubt : goal.returns-clause-doubt
unfolding members_in with_node
returns-clause-doubt c = refl

pub returns-clause-doubting : goal.returns-clause-doubting
unfolding members_in with_node
returns-clause-doubting c = refl

pub returns-clause-members : goal.returns-clause-members
unfolding members_in with_node
returns-clause-members c = refl

pub returns-clause-safe : goal.returns-clause-safe
unfolding members_in with_node
returns-clause-safe c = record { agree = refl; senders = refl; stay = refl; faulty = refl }

pub returns-clause-tentative : goal.returns-clause-tentative
unfolding members_in with_node
returns-clause-tentative c = refl

pub returns-clause-other : goal.returns-clause-other
unfolding members_in with_node
returns-clause-other c = refl

pub returns-clause-settled : goal.returns-clause-settled
unfolding members_in with_node
returns-clause-settled c = refl
