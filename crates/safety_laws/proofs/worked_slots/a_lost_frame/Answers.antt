use Rattle.safety_laws.proofs.Words.{[], ◌∷◌, refl, arith, members_in, with_node, first_frame_lost}
use Rattle.safety_laws.proofs.FourNodes.{judging-at, hears-at}
use Rattle.safety_laws.proofs.worked_slots.a_lost_frame.Goals as goal

pub returns-clause-nothing : goal.returns-clause-nothing
unfolding members_in with_node
returns-clause-nothing c = record { a = refl; b = refl }

pub returns-clause-judging : goal.returns-clause-judging
unfolding members_in with_node
returns-clause-judging c =
    judging-at first_frame_lost 10 1 (0 ∷ 1 ∷ []) (omega arith) refl (omega arith) (λ same. cc) refl refl tt

pub returns-clause-waits : goal.returns-clause-waits
unfolding members_in with_node
returns-clause-waits c = refl

pub returns-clause-hears : goal.returns-clause-hears
unfolding members_in with_node
returns-clause-hears c = hears-at first_frame_lost 10 1 2 (0 ∷ 2 ∷ []) (0 ∷ []) refl refl refl refl refl

pub returns-clause-tentative : goal.returns-clause-tentative
unfolding members_in with_node
returns-clause-tentative c = refl

pub returns-clause-judging_again : goal.returns-clause-judging_again
unfolding members_in with_node
returns-clause-judging_again c =
    judging-at first_frame_lost 11 1 (0 ∷ 1 ∷ 2 ∷ []) (omega arith) refl (omega arith) (λ same. cc) refl refl
    (omega arith)

pub returns-clause-doubts : goal.returns-clause-doubts
unfolding members_in with_node
returns-clause-doubts c = refl

pub returns-clause-hears_again : goal.returns-clause-hears_again
unfolding members_in with_node
returns-clause-hears_again c = hears-at first_frame_lost 11 1 3 (0 ∷ 2 ∷ 3 ∷ []) (0 ∷ []) refl refl refl refl refl

pub returns-clause-denied : goal.returns-clause-denied
unfolding members_in with_node
returns-clause-denied c = refl
