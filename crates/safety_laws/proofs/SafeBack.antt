-- The tests of safety with armed nodes follow from what each node is by its fate.
use Rattle.safety_laws.proofs.Words.{◌≡◌, ℕ, suc, ◌+◌, ◌-◌, ◌<◌, Bool, true, false, not, ◌&&◌, ◌||◌, List, length, Some}
use Rattle.safety_laws.proofs.Words.{refl, ap, sym, subst, ◌∙◌, inl, inr, arith, nat_le, AllByRecursion, or_right}
use Rattle.safety_laws.proofs.Words.{and_from, and_parts, leb-true, both_ways, not_from_false, below-lt, Medl, Ack}
use Rattle.safety_laws.proofs.Words.{Phase, Script, is_doubt, has_sent_in_stint, has_left_since_arm, History, diary_of}
use Rattle.safety_laws.proofs.Words.{is_active_phase, is_active, ClusterStart, FaultyNode, nodes_of, newest_slot}
use Rattle.safety_laws.proofs.Words.{is_settled, are_same_members, has_left, is_in_among, is_out_among, is_armed}
use Rattle.safety_laws.proofs.Words.{node_past, each-filter, FaultPlan, enters, fate_of, lost_since, ledger_of}
use Rattle.safety_laws.proofs.Words.{ledger-told, IsSoundAt, is_there, sound-fate}
use Rattle.std.proofs.lemmas.Bool.{or_left}
use Rattle.ttp_world.specs.declared.node.Ack.TheVariants as ack
use Rattle.ttp_world.specs.BackSafety.{back_correct_nodes, back_settled_nodes, back_senders}
use Rattle.ttp_world.specs.BackSafety.{is_armed_among, back_members_agree, back_senders_are_members}
use Rattle.ttp_world.specs.BackSafety.{none_has_left_since_arm, is_back_gone, back_faulty_are_gone, has_returned}
use Rattle.ttp_world.specs.BackSafety.{is_due, armed_have_returned, IsBackSafe}
use Rattle.ttp_world.specs.Returning.{two_rounds, four_rounds, back_faulty_after, is_back_correct_after}
use Rattle.safety_laws.specs.Returned.{IsSoundAgain}
use Rattle.safety_laws.specs.PlannedRun.{StandsBack}
use Rattle.safety_laws.proofs.Among.{all-by, each-of, newest, IsSoundNode, at-sound, same-settled, agree-settled}
use Rattle.safety_laws.proofs.Among.{in-sound, gone-lost}
use Rattle.safety_laws.proofs.PlanSteps.{told-fallen}

module _ (list : Medl) (script : Script) (start : ClusterStart) (plan : FaultPlan) (turn : ℕ) (history : History)
    (is : StandsBack list script start plan turn history) where
  newest-is : newest_slot history ≡ start.slot + turn
  newest-is = newest is.stands

  -- Nodes that are correct by the other test are sound.

  abbrev Sound : ℕ → Type 0
  Sound k = IsSoundNode is.stands k

  sound : (k : ℕ) → k < length list.slots → is_back_correct_after list script (newest_slot history) k ≡ true → Sound k
  sound k node correct = (
    node,
    is.returns.sound turn k node is.stands.within
        (ap (λ slot. is_back_correct_after list script slot k) (sym newest-is) ∙ correct),
  )

  corrects : AllByRecursion Sound (back_correct_nodes list script history)
  corrects =
      each-of (back_correct_nodes list script history) (λ k of_k. sound k of_k.0 of_k.1)
      (each-filter (λ k. k < length list.slots) (is_back_correct_after list script (newest_slot history))
      (nodes_of list) (below-lt (length list.slots)))

  agree : back_members_agree list script history ≡ true
  agree =
      agree-settled is.stands (back_settled_nodes list script history)
      (each-filter Sound (is_settled history) (back_correct_nodes list script history) corrects)

  -- each that has sent in its stint is a member
  senders : back_senders_are_members list script history ≡ true
  senders =
      all-by (λ j. Sound j × (has_sent_in_stint (diary_of history j) ≡ true))
      (is_in_among list history (back_correct_nodes list script history)) (back_senders list script history) (λ j of_j.
      in-sound is.stands (back_correct_nodes list script history) corrects j of_j.0
      (is.stands.holds.sent j of_j.0.0 of_j.0.1 of_j.1))
      (each-filter Sound (λ j. has_sent_in_stint (diary_of history j))
      (back_correct_nodes list script history) corrects)

  -- none has left since it was armed last
  stay : none_has_left_since_arm list script history ≡ true
  stay =
      all-by Sound (λ k. not (has_left_since_arm script history k)) (back_correct_nodes list script history) (λ k of_k.
      not_from_false (has_left_since_arm script history k)
      (is.stands.holds.stay k of_k.0 (ap is_there (sound-fate (fate_of plan turn k) of_k.1)))) corrects

  -- each faulty node that was not armed since has left in time
  abbrev IsLost : FaultyNode → Type 0
  IsLost f =
      is_armed_among script f.node f.slot (suc (start.slot + turn) - f.slot) ≡ false
      → lost_since (fate_of plan turn f.node) ≡ Some (f.slot - start.slot)

  all-lost : AllByRecursion IsLost (back_faulty_after list script (newest_slot history))
  all-lost =
      subst (λ slot. AllByRecursion IsLost (back_faulty_after list script slot)) (sym newest-is)
      (is.returns.faulty turn is.stands.within)

  gone : (f : FaultyNode) → IsLost f → is_back_gone list script history f ≡ true
  gone f lost =
      by (nat_le (f.slot + two_rounds list) (length history))
      (is_armed_among script f.node f.slot (length history - f.slot)) refl refl
    where
      nodes : List ℕ
      nodes = back_correct_nodes list script history

      by : (over armed : Bool) → nat_le (f.slot + two_rounds list) (length history) ≡ over
          → is_armed_among script f.node f.slot (length history - f.slot) ≡ armed
          → is_back_gone list script history f ≡ true
      by false armed early _ =
          ap (λ b. not b || (is_armed_among script f.node f.slot (length history - f.slot)
          || (has_left history f.node && is_out_among list history nodes f.node))) early
      by true true over armed =
          or_right (not (nat_le (f.slot + two_rounds list) (length history))) _
          (or_left (is_armed_among script f.node f.slot (length history - f.slot)) _ armed)
      by true false over unarmed =
          let passed = leb-true (f.slot + two_rounds list) (length history) over in
          or_right (not (nat_le (f.slot + two_rounds list) (length history))) _
          (or_right (is_armed_among script f.node f.slot (length history - f.slot)) _
          (gone-lost is.stands nodes corrects f.node f.slot
          (lost (ap (λ slots. is_armed_among script f.node f.slot (slots - f.slot)) (sym is.stands.number) ∙ unarmed))
          (omega (arith, passed, is.stands.number, newest-is))))

  faulty : back_faulty_are_gone list script history ≡ true
  faulty = all-by IsLost _ (back_faulty_after list script (newest_slot history)) gone all-lost

  -- A node that was armed four rounds ago is sound again: nobody is in doubt, and it has had a slot.
  module _ (k : ℕ) (node : k < length list.slots) (again : IsSoundAgain plan turn k) where
    settled : (j : ℕ) → Sound j → is_settled history j ≡ true
    settled j of_j = by (node_past list script history j).ack refl
      where
        by : (a : Ack) → (node_past list script history j).ack ≡ a → not (is_doubt a) ≡ true
        by ack.Closed held = refl
        by ack.First held = refl
        by (ack.Doubt y) held =
            let found = (at-sound is.stands j of_j).doubted y held in
            let good = is.stands.planned.follows.good in
            let loss = (told-fallen plan turn y (ledger_of plan turn j).base found.0 _ good found.1).loss in
            let near = ledger-told plan turn j good (subst (λ n. j < n) (sym is.stands.planned.follows.nodes) of_j.0) in
            let none = again.quiet (ledger_of plan turn j).base near.within near.near in
            let both = sym loss.found ∙ none in
            cc

    own : (ledger_of plan turn k).own ≡ true
    own = by (ledger_of plan turn k).own refl
      where
        by : (has : Bool) → (ledger_of plan turn k).own ≡ has → has ≡ true
        by true has = refl
        by false first =
            let told = ledger-told plan turn k is.stands.planned.follows.good
            (subst (λ n. k < n) (sym is.stands.planned.follows.nodes) node) in
            elim (told.began first) [
              | inl at_start ↦ absurd (omega (arith, at_start, told.near, again.late))
              | inr entered ↦
                  absurd (both_ways (enters plan (ledger_of plan turn k).base k)
                  (again.entered (ledger_of plan turn k).base told.within told.near) entered)
            ]

    returned : has_returned list script history k ≡ true
    returned =
        let of_k : Sound k = (node, again.sound) in
        let nodes = back_correct_nodes list script history in
        and_from (is_active (diary_of history k)) _
        (ap (λ (p : Phase). is_active_phase p) (at-sound is.stands k of_k).phase)
        (and_from (is_in_among list history nodes k) _ (in-sound is.stands nodes corrects k of_k own) (all-by Sound
        (are_same_members list history k) nodes (λ j of_j.
        same-settled is.stands k j (of_k, settled k of_k) (of_j, settled j of_j)) corrects))

  returned-due : (k : ℕ) → (k < length list.slots) × (is_due list script history k ≡ true)
      → has_returned list script history k ≡ true
  returned-due k due =
      let parts = and_parts (nat_le (four_rounds list) (length history)) _ due.1 in
      let long = leb-true (four_rounds list) (length history) parts.0 in
      returned k due.0 (is.returns.returned turn k due.0 is.stands.within (omega (arith, long, is.stands.number))
      (ap (λ slots. is_armed script k (slots - four_rounds list)) (sym is.stands.number) ∙ parts.1))

  have-returned : armed_have_returned list script history ≡ true
  have-returned =
      all-by (λ k. (k < length list.slots) × (is_due list script history k ≡ true)) (has_returned list script history) _
      returned-due (each-filter (λ k. k < length list.slots) (is_due list script history) (nodes_of list)
      (below-lt (length list.slots)))

  pub safe-back : IsBackSafe list script history
  safe-back = record { agree = agree; senders = senders; stay = stay; faulty = faulty; returned = have-returned }

  -- Each such node is a sound one of the plan.
  pub back-sound : (k : ℕ) → k < length list.slots → is_back_correct_after list script (newest_slot history) k ≡ true
      → IsSoundAt list plan turn k (node_past list script history k)
  back-sound k node correct = at-sound is.stands k (sound k node correct)
