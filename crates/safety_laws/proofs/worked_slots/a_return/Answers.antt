use Rattle.safety_laws.proofs.Words.{[], ◌∷◌, refl, members_in, with_node, OnBoth, slot_frame, four_kinds}
use Rattle.safety_laws.proofs.worked_slots.a_return.Goals as goal

pub returns-clause-left : goal.returns-clause-left
unfolding members_in with_node
returns-clause-left c = refl

pub returns-clause-listens : goal.returns-clause-listens
unfolding members_in with_node
returns-clause-listens c = refl

pub returns-clause-no_place : goal.returns-clause-no_place
unfolding members_in with_node
returns-clause-no_place c = record {
  bytes = slot_frame four_kinds (record { time = 6; round = 0; slot = 2 }) (0 ∷ 2 ∷ 3 ∷ []) (0 ∷ []);
  comes = OnBoth refl refl;
  can_not = refl;
}

pub returns-clause-waits : goal.returns-clause-waits
unfolding members_in with_node
returns-clause-waits c = refl

pub returns-clause-goes_on : goal.returns-clause-goes_on
unfolding members_in with_node
returns-clause-goes_on c = refl

pub returns-clause-none_counted : goal.returns-clause-none_counted
unfolding members_in with_node
returns-clause-none_counted c = refl

pub returns-clause-limit : goal.returns-clause-limit
unfolding members_in with_node
returns-clause-limit c = refl

pub returns-clause-place : goal.returns-clause-place
unfolding members_in with_node
returns-clause-place c = record {
  bytes = slot_frame four_kinds (record { time = 7; round = 0; slot = 3 }) (0 ∷ 2 ∷ 3 ∷ []) (0 ∷ []);
  comes = OnBoth refl refl;
  can = refl;
  nodes = refl;
}

pub returns-clause-joins : goal.returns-clause-joins
unfolding members_in with_node
returns-clause-joins c = refl
