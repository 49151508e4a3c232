-- The tests of safety follow from what each node is by its fate.
use Rattle.safety_laws.proofs.Words.{◌≡◌, ℕ, suc, ◌+◌, ◌-◌, ◌*◌, ◌<◌, ◌≤◌, Bool, true, false, not, ◌&&◌, ◌||◌, length}
use Rattle.safety_laws.proofs.Words.{Some, refl, ap, sym, subst, ◌∙◌, arith, nat_le, AllByRecursion, or_right, leb-true}
use Rattle.safety_laws.proofs.Words.{below-lt, Medl, Phase, Script, History, diary_of, ClusterStart, FaultyNode}
use Rattle.safety_laws.proofs.Words.{nodes_of, is_correct_after, is_left_phase, newest_slot, is_settled, has_ever_sent}
use Rattle.safety_laws.proofs.Words.{has_left, is_in_among, IsSafe, node_past, each-filter, FaultPlan, fate_of}
use Rattle.safety_laws.proofs.Words.{lost_since, none-enters, IsSoundAt, FaultyLeave, StandsWithFaults}
use Rattle.ttp_world.specs.Hypothesis.{faulty_nodes_after}
use Rattle.ttp_world.specs.Safety.{correct_nodes, settled_nodes}
use Rattle.ttp_world.specs.Safety.{correct_senders, is_out, is_gone, members_agree, senders_are_members}
use Rattle.ttp_world.specs.Safety.{none_has_left, faulty_are_gone}
use Rattle.safety_laws.proofs.Among.{all-by, each-of, newest, IsSoundNode, at-sound, agree-settled, in-sound}
use Rattle.safety_laws.proofs.Among.{gone-lost}

module _ {list : Medl} {script : Script} {start : ClusterStart} {plan : FaultPlan} {turn : ℕ} {history : History}
    (is : StandsWithFaults list script start plan turn history) where
  newest-is : newest_slot history ≡ start.slot + turn
  newest-is = newest is.stands

  -- Correct nodes are the sound ones.

  abbrev Sound : ℕ → Type 0
  Sound k = IsSoundNode is.stands k

  sound : (k : ℕ) → k < length list.slots → is_correct_after list script (newest_slot history) k ≡ true → Sound k
  sound k node correct = (
    node,
    is.faults.sound turn k node is.stands.within
        ∙ ap (λ slot. is_correct_after list script slot k) (sym newest-is) ∙ correct,
  )

  corrects : AllByRecursion Sound (correct_nodes list script history)
  corrects =
      each-of (correct_nodes list script history) (λ k of_k. sound k of_k.0 of_k.1)
      (each-filter (λ k. k < length list.slots) (is_correct_after list script (newest_slot history)) (nodes_of list)
      (below-lt (length list.slots)))

  agree : members_agree list script history ≡ true
  agree =
      agree-settled is.stands (settled_nodes list script history)
      (each-filter Sound (is_settled history) (correct_nodes list script history) corrects)

  -- each that has sent is a member
  senders : senders_are_members list script history ≡ true
  senders =
      all-by (λ j. Sound j × (has_ever_sent (diary_of history j) ≡ true))
      (is_in_among list history (correct_nodes list script history)) (correct_senders list script history) (λ j of_j.
      in-sound is.stands (correct_nodes list script history) corrects j of_j.0
      (is.stands.holds.ever_sent j of_j.0.0 of_j.0.1 (λ slot to. none-enters plan slot j is.faults.returns) of_j.1))
      (each-filter Sound (λ j. has_ever_sent (diary_of history j)) (correct_nodes list script history) corrects)

  -- none has left
  stay : none_has_left list script history ≡ true
  stay =
      all-by Sound (λ k. not (has_left history k)) (correct_nodes list script history) (λ k of_k.
      ap (λ (p : Phase). not (is_left_phase p)) (at-sound is.stands k of_k).phase) corrects

  -- and each faulty node has left in time
  abbrev IsLost : FaultyNode → Type 0
  IsLost f = lost_since (fate_of plan turn f.node) ≡ Some (f.slot - start.slot)

  all-lost : AllByRecursion IsLost (faulty_nodes_after list script (newest_slot history))
  all-lost =
      subst (λ slot. AllByRecursion IsLost (faulty_nodes_after list script slot)) (sym newest-is)
      (is.faults.faulty turn is.stands.within)

  gone-faulty : (f : FaultyNode) → IsLost f → f.slot + 2 * length list.slots ≤ suc (suc (newest_slot history))
      → (has_left history f.node && is_out list script history f.node) ≡ true
  gone-faulty f lost late = gone-lost is.stands (correct_nodes list script history) corrects f.node f.slot lost late

  pub faulty-leave : FaultyLeave list script history
  faulty-leave = each-of (faulty_nodes_after list script (newest_slot history)) gone-faulty all-lost

  gone : (f : FaultyNode) → IsLost f → is_gone list script history f ≡ true
  gone f lost = by (nat_le (f.slot + 2 * length list.slots) (suc (newest_slot history))) refl
    where
      by : (over : Bool) → nat_le (f.slot + 2 * length list.slots) (suc (newest_slot history)) ≡ over
          → is_gone list script history f ≡ true
      by false is = ap (λ b. not b || (has_left history f.node && is_out list script history f.node)) is
      by true is =
          let passed = leb-true (f.slot + 2 * length list.slots) (suc (newest_slot history)) is in
          or_right _ _ (gone-faulty f lost (omega (arith, passed)))

  faulty : faulty_are_gone list script history ≡ true
  faulty = all-by IsLost _ (faulty_nodes_after list script (newest_slot history)) gone all-lost

  pub safe-after : IsSafe list script history
  safe-after = record { agree = agree; senders = senders; stay = stay; faulty = faulty }

  -- Each correct node is a sound one of the plan.
  pub correct-sound : (k : ℕ) → k < length list.slots → is_correct_after list script (newest_slot history) k ≡ true
      → IsSoundAt list plan turn k (node_past list script history k)
  correct-sound k node correct = at-sound is.stands k (sound k node correct)
