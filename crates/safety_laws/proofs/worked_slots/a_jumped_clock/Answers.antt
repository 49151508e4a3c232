use Rattle.safety_laws.proofs.Words.{[], ◌∷◌, refl, arith, members_in, with_node, OnBoth, slot_frame, four_kinds, at}
use Rattle.safety_laws.specs.NodeSlot.{slot_place}
use Rattle.safety_laws.specs.WorkedSlots.{jumping}
use Rattle.safety_laws.proofs.FourNodes.{judging-at}
use Rattle.safety_laws.proofs.worked_slots.a_jumped_clock.Goals as goal

pub returns-clause-judging : goal.returns-clause-judging
unfolding members_in with_node
returns-clause-judging c = judging-at jumping 9 0 (0 ∷ []) (omega arith) refl (omega arith) (λ same. cc) refl refl tt

pub returns-clause-hears : goal.returns-clause-hears
unfolding members_in with_node
returns-clause-hears c = record {
  bytes = slot_frame four_kinds (slot_place (at jumping 9 0)) (0 ∷ 1 ∷ []) [];
  comes = OnBoth refl refl;
  outside = refl;
}

pub returns-clause-invalid : goal.returns-clause-invalid
unfolding members_in with_node
returns-clause-invalid c = refl
