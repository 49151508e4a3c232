use Rattle.safety_laws.proofs.Words.{[], ◌∷◌, refl, arith, members_in, with_node}
use Rattle.safety_laws.specs.WorkedSlots.{deaf}
use Rattle.safety_laws.proofs.FourNodes.{judging-at, own-at, hears-at}
use Rattle.safety_laws.proofs.worked_slots.a_deaf_node.Goals as goal

pub returns-clause-noise : goal.returns-clause-noise
unfolding members_in with_node
returns-clause-noise c = record { a = refl; b = refl }

pub returns-clause-invalid : goal.returns-clause-invalid
unfolding members_in with_node
returns-clause-invalid c = refl

pub returns-clause-judging : goal.returns-clause-judging
unfolding members_in with_node
returns-clause-judging c = judging-at deaf 10 3 (0 ∷ []) (omega arith) refl (omega arith) (λ same. cc) refl refl tt

pub returns-clause-hears : goal.returns-clause-hears
unfolding members_in with_node
returns-clause-hears c = hears-at deaf 10 3 2 (0 ∷ 1 ∷ 2 ∷ []) (0 ∷ []) refl refl refl refl refl

pub returns-clause-expects : goal.returns-clause-expects
unfolding members_in with_node
returns-clause-expects c = refl

pub returns-clause-alone : goal.returns-clause-alone
unfolding members_in with_node
returns-clause-alone c = refl

pub returns-clause-own : goal.returns-clause-own
unfolding members_in with_node
returns-clause-own c = own-at deaf 11 3 (0 ∷ []) (omega arith) refl refl refl refl

pub returns-clause-closed : goal.returns-clause-closed
unfolding members_in with_node
returns-clause-closed c = refl

pub returns-clause-accepted : goal.returns-clause-accepted
unfolding members_in with_node
returns-clause-accepted c = refl

pub returns-clause-rejected : goal.returns-clause-rejected
unfolding members_in with_node
returns-clause-rejected c = refl

pub returns-clause-clique : goal.returns-clause-clique
unfolding members_in with_node
returns-clause-clique c = refl
