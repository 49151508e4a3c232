use Rattle.safety_laws.proofs.Words.{[], ◌∷◌, refl, arith, members_in, with_node, faultless}
use Rattle.safety_laws.specs.WorkedSlots.{silent_and_deaf, unheard_start}
use Rattle.safety_laws.proofs.FourNodes.{own-at}
use Rattle.safety_laws.proofs.worked_slots.own_slots.Goals as goal

pub returns-clause-own : goal.returns-clause-own
unfolding members_in with_node
returns-clause-own c = own-at faultless 10 2 (0 ∷ 1 ∷ []) (omega arith) refl refl refl refl

pub returns-clause-closed : goal.returns-clause-closed
unfolding members_in with_node
returns-clause-closed c = refl

pub returns-clause-payload : goal.returns-clause-payload
unfolding members_in with_node
returns-clause-payload c = λ carries. refl

pub returns-clause-sends : goal.returns-clause-sends
unfolding members_in with_node
returns-clause-sends c = refl

pub returns-clause-own_again : goal.returns-clause-own_again
unfolding members_in with_node
returns-clause-own_again c = own-at silent_and_deaf 13 1 (1 ∷ []) (omega arith) refl refl refl refl

pub returns-clause-waits : goal.returns-clause-waits
unfolding members_in with_node
returns-clause-waits c = refl

pub returns-clause-unacknowledged : goal.returns-clause-unacknowledged
unfolding members_in with_node
returns-clause-unacknowledged c = refl

pub returns-clause-starter : goal.returns-clause-starter
unfolding members_in with_node
returns-clause-starter c = own-at unheard_start 12 0 (0 ∷ []) (omega arith) refl refl refl refl

pub returns-clause-cold_start : goal.returns-clause-cold_start
unfolding members_in with_node
returns-clause-cold_start c = refl

pub returns-clause-retries : goal.returns-clause-retries
unfolding members_in with_node
returns-clause-retries c = refl
