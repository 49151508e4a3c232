use Rattle.safety_laws.proofs.Words.{[], ◌∷◌, refl, arith, members_in, with_node, faultless}
use Rattle.safety_laws.proofs.FourNodes.{judging-at, hears-at}
use Rattle.safety_laws.proofs.worked_slots.a_correct_frame.Goals as goal

pub returns-clause-judging : goal.returns-clause-judging
unfolding members_in with_node
returns-clause-judging c = judging-at faultless 9 0 (0 ∷ []) (omega arith) refl (omega arith) (λ same. cc) refl refl tt

pub returns-clause-hears : goal.returns-clause-hears
unfolding members_in with_node
returns-clause-hears c = hears-at faultless 9 0 1 (0 ∷ 1 ∷ []) [] refl refl refl refl refl

pub returns-clause-first : goal.returns-clause-first
unfolding members_in with_node
returns-clause-first c = refl

pub returns-clause-entry : goal.returns-clause-entry
unfolding members_in with_node
returns-clause-entry c = refl
