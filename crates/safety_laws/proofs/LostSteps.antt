-- A node whose clock has jumped, before its first own slot: no frame comes to it inside its window.
use Rattle.safety_laws.proofs.Words.{◌≡◌, ◌≢◌, ℕ, suc, ◌+◌, ◌<◌, Bool, true, false, length, refl, ap, sym, subst, ◌∙◌}
use Rattle.safety_laws.proofs.Words.{◌⊎◌, inl, inr, mod-lt, arith, cases_lt, lt-ltb, false_from_ne_true, with_node}
use Rattle.safety_laws.proofs.Words.{Medl, Script, ClusterStart, loses, is_within_window, SlotNumbers, Numbers}
use Rattle.safety_laws.proofs.Words.{slot_after, deviation_in, world, Change, Sending, Receiving, Jumping, FaultPlan}
use Rattle.safety_laws.proofs.Words.{sender, is_armed_by, incident_at, Fate, Absent, Sound, Falling, Fallen, Listening}
use Rattle.safety_laws.proofs.Words.{fate_of, is_lost, may_stay, is_sound_fate, planned_members, planned_place}
use Rattle.safety_laws.proofs.Words.{loss-sending, one-stays, fallen-member, sender-lost, turns_apart, HearsNoAnswer}
use Rattle.safety_laws.proofs.Words.{Lacks, HasThird, Outside, NoFrame, next_past, owner_of, HearsMembers, nodes-most}
use Rattle.safety_laws.proofs.Words.{IsFallingAt, IsFallenAt, IsTurn, sound-fate, strikes}
use Rattle.ttp_world.specs.declared.node.Phase.TheVariants as phase
use Rattle.safety_laws.proofs.GroupSets.{has_node-with_other, has_node-with_member}
use Rattle.safety_laws.proofs.Idle.{idle-left}
use Rattle.safety_laws.proofs.OneSender.{outside-alone, none-alone, silent-none_sends}
use Rattle.safety_laws.proofs.Arrivals.{at-fate, sound-alone, hears-planned, silent-absent, silent-listening}
use Rattle.safety_laws.proofs.Arrivals.{silent-fallen}
use Rattle.safety_laws.proofs.LostNodes.{deaf-judges, jumped-judges, fallen-judges, deaf-falls, jumped-falls}
use Rattle.safety_laws.proofs.LostNodes.{IsJudgedWrong, HearsLate, NoFrame, Outside, late-wrong}
use Rattle.safety_laws.proofs.Hearing.{frameless-silent}
use Rattle.safety_laws.proofs.PlanSteps.{IsStruck, falling-stays, struck-falls, round-turn, told-falling, told-fallen}
use Rattle.safety_laws.proofs.PlanSteps.{struck-known, absent-stays, fallen-stays, sound-stays, falling-shown}
use Rattle.safety_laws.proofs.PlanSteps.{struck-shown}
use Rattle.safety_laws.proofs.Receivers.{sound-judge}
use Rattle.safety_laws.proofs.PlanTurns.{SendsNone, slot_of, slot_number, owner-is, judges, armed-planned}
use Rattle.safety_laws.proofs.PlanTurns.{unarmed-falling, less-planned, within-plan, e-node, good_plan}
use Rattle.safety_laws.proofs.Listeners.{IsAwaited, awaited-armed, awaited-listening, fate-awaited}
use Rattle.safety_laws.proofs.SlotKinds.{sender-stays as sender-unentered}

module _ {list : Medl} {script : Script} {start : ClusterStart} {plan : FaultPlan} {turn : ℕ} {new : SlotNumbers}
    {numbers : Numbers} (t : IsTurn list script start plan turn new numbers) (k : ℕ) (node : k < length list.slots)
    (since : ℕ) (jumped : fate_of plan (suc turn) k ≡ Falling Jumping since) where
  -- the turn is another's,
  pub turn-other : sender plan (suc turn) ≢ k
  turn-other =
      let told = told-falling plan (suc turn) k since Jumping (good_plan t) jumped in
      told.unshown (suc turn) told.from (omega arith)

  -- of a node that is not lost by then, and not lost in it
  none-shown : (change : Change) (s : ℕ)
      → fate_of plan (suc turn) (sender plan (suc turn)) ≡ Fallen change s (suc turn) → ⊥
  none-shown change s shown =
      let stays : may_stay plan.nodes (suc turn) (fate_of plan (suc turn) (sender plan (suc turn))) ≡ true =
      ap (may_stay plan.nodes (suc turn)) shown
      ∙ lt-ltb (suc turn) (suc turn + plan.nodes) (omega (arith, (good_plan t).count)) in
      turn-other (one-stays plan (suc turn) (sender plan (suc turn)) k (good_plan t) stays
      (ap (may_stay plan.nodes (suc turn)) jumped))

  late-silence : SendsNone t → HearsLate (slot_of list script new numbers k)
  late-silence none = NoFrame (frameless-silent _ (silent-none_sends list script (world list script numbers) _ k none))

  late-sound : fate_of plan turn (sender plan (suc turn)) ≡ Sound
      → strikes (incident_at plan (suc turn)) (sender plan (suc turn)) ≡ false
      → HearsLate (slot_of list script new numbers k)
  late-sound sends missed = by _ refl
    where
      by : (lost : Bool) → loses script (sender plan (suc turn)) (length (world list script numbers)) k ≡ lost
          → HearsLate (slot_of list script new numbers k)
      by true lost = NoFrame (none-alone k (sound-alone t sends) lost)
      by false kept =
          Outside (sender plan (suc turn)) (outside-alone k (sound-alone t sends) kept (t.clocks.others k
          (sender plan (suc turn)) since node (e-node t) jumped
          (ap is_sound_fate (sound-stays plan turn (sender plan (suc turn)) (good_plan t) missed sends))
          (sender-unentered plan (suc turn) (good_plan t))))

  hears-late : (fate : Fate) → fate_of plan turn (sender plan (suc turn)) ≡ fate
      → HearsLate (slot_of list script new numbers k)
  hears-late Absent is = late-silence (silent-absent t is)
  hears-late (Listening s) is = late-silence (silent-listening t s is)
  hears-late (Fallen change s shown) is = late-silence (silent-fallen t change s shown is)
  hears-late (Falling change s) is =
      absurd (none-shown change s (falling-shown plan turn (sender plan (suc turn)) s change (good_plan t) refl is))
  hears-late Sound is = by (strikes (incident_at plan (suc turn)) (sender plan (suc turn))) refl
    where
      by : (hit : Bool) → strikes (incident_at plan (suc turn)) (sender plan (suc turn)) ≡ hit
          → HearsLate (slot_of list script new numbers k)
      by true hit =
          let struck = struck-known plan (suc turn) (sender plan (suc turn)) hit in
          absurd (none-shown struck.incident.change (suc turn)
          (struck-shown plan turn (sender plan (suc turn)) (good_plan t) struck refl))
      by false missed = late-sound is missed

  -- one that returns does not jump
  none-awaited : (s : ℕ) → IsAwaited plan turn k s → ⊥
  none-awaited s awaited =
      elim (fate-awaited plan turn k s (good_plan t) awaited (within-plan t)) [
        | inl sound ↦ let both = sym sound ∙ jumped in cc
        | inr listens ↦ let both = sym listens ∙ jumped in cc
      ]

  -- before the turn the node is active, and stands where the plan does
  stands-jumped : (fate : Fate) → fate_of plan turn k ≡ fate →
      let past = (slot_of list script new numbers k).past in
      (past.phase ≡ phase.Active) × (past.place ≡ planned_place list plan turn)
  stands-jumped Absent is =
      let both = sym (absent-stays plan turn k (good_plan t) is) ∙ jumped in cc
  stands-jumped (Listening s) is =
      absurd (none-awaited s (awaited-listening plan turn k s (good_plan t) (within-plan t) is))
  stands-jumped (Fallen change s shown) is =
      let unarmed = false_from_ne_true (is_armed_by plan (suc turn) k) (λ armed.
      none-awaited (suc turn) (awaited-armed plan turn k (good_plan t) armed)) in
      let both = sym (fallen-stays plan turn k s shown change (good_plan t) unarmed is) ∙ jumped in cc
  stands-jumped Sound is =
      let at = at-fate t k Sound node is in (at.phase, at.place)
  stands-jumped (Falling change s) is =
      let both = sym (falling-stays plan turn k s change (good_plan t) turn-other is) ∙ jumped in
      elim (at-fate t k (Falling change s) node is) [
        | inl left ↦ let deaf = left.1 in cc
        | inr at ↦ (at.phase, at.place)
      ]

  -- so it judges, and not as correct
  pub jumped-wrong : IsJudgedWrong (slot_of list script new numbers k)
  jumped-wrong =
      let stands = stands-jumped (fate_of plan turn k) refl in
      late-wrong (slot_of list script new numbers k) (judges t k node stands.0 stands.1 turn-other)
      (hears-late (fate_of plan turn (sender plan (suc turn))) refl)

-- A node that is lost before a turn or in it, and is not the turn's sender.

module _ {list : Medl} {script : Script} {start : ClusterStart} {plan : FaultPlan} {turn : ℕ} {new : SlotNumbers}
    {numbers : Numbers} (t : IsTurn list script start plan turn new numbers) (k : ℕ) (node : k < length list.slots)
    (other : sender plan (suc turn) ≢ k) where
  few_nodes : 0 < plan.nodes
  few_nodes = let count = (good_plan t).count in omega (arith, count)

  -- a sound node that is lost in the turn
  deaf-next : fate_of plan turn k ≡ Sound → (is : IsStruck plan (suc turn) k) → is.incident.change ≡ Receiving
      → IsFallingAt list plan (suc turn) k Receiving (suc turn) (next_past (slot_of list script new numbers k))
  deaf-next sound is deaf =
      let loss = (good_plan t).losses turn is.incident is.found in
      let sends = sound-fate (fate_of plan turn (sender plan (suc turn))) (loss.receiving deaf).1 in
      let hearing = t.planned.follows.hearing (suc turn) t.within in
      deaf-falls (sound-judge t k node other sound) ((good_plan t).late (suc turn) is.incident is.found)
      (none-alone k (sound-alone t sends) (ap (λ n. loses script (sender plan (suc turn)) n k) (slot_number t)
      ∙ ap (loses script (sender plan (suc turn)) (start.slot + suc turn)) (sym is.node)
      ∙ hearing.deaf is.incident is.found deaf))

  pub struck-next : fate_of plan turn k ≡ Sound → (is : IsStruck plan (suc turn) k)
      → IsFallingAt list plan (suc turn) k is.incident.change (suc turn) (next_past (slot_of list script new numbers k))
  struck-next sound is = by is.incident.change refl
    where
      by : (change : Change) → is.incident.change ≡ change
          → IsFallingAt list plan (suc turn) k is.incident.change (suc turn)
          (next_past (slot_of list script new numbers k))
      by Sending how = absurd (other (((good_plan t).losses turn is.incident is.found).sending how ∙ is.node))
      by Receiving how =
          subst (λ (c : Change). IsFallingAt list plan (suc turn) k c (suc turn)
          (next_past (slot_of list script new numbers k))) (sym how) (deaf-next sound is how)
      by Jumping how =
          subst (λ (c : Change). IsFallingAt list plan (suc turn) k c (suc turn)
          (next_past (slot_of list script new numbers k))) (sym how) (jumped-falls (sound-judge t k node other sound)
          ((good_plan t).late (suc turn) is.incident is.found) (jumped-wrong t k node (suc turn)
          (struck-falls plan turn k (good_plan t) is other ∙ ap (λ (c : Change). Falling c (suc turn)) how)))

  -- What comes to a node that was lost and may still stay: what a sound sender's frame is to it, or none.

  by-silence : SendsNone t → HearsNoAnswer (slot_of list script new numbers k)
  by-silence none = NoFrame (frameless-silent _ (silent-none_sends list script (world list script numbers) _ k none))

  module _ (place : (slot_of list script new numbers k).past.place ≡ planned_place list plan turn)
      (told : HearsMembers (slot_of list script new numbers k) (sender plan (suc turn))
      (with_node (planned_members plan turn) (sender plan (suc turn)))
      → HearsNoAnswer (slot_of list script new numbers k)) where
    by-sound : fate_of plan turn (sender plan (suc turn)) ≡ Sound → HearsNoAnswer (slot_of list script new numbers k)
    by-sound sends = by _ _ refl refl
      where
        by : (lost within : Bool) → loses script (sender plan (suc turn)) (length (world list script numbers)) k ≡ lost
            → is_within_window list
            (deviation_in (slot_after list script (world list script numbers)) k (sender plan (suc turn))) ≡ within
            → HearsNoAnswer (slot_of list script new numbers k)
        by true within lost _ = NoFrame (none-alone k (sound-alone t sends) lost)
        by false false kept outside =
            Outside (sender plan (suc turn)) (outside-alone k (sound-alone t sends) kept outside)
        by false true kept within = told (hears-planned t sends k place kept within)

    no-answer : may_stay plan.nodes turn (fate_of plan turn k) ≡ true → (fate : Fate)
        → fate_of plan turn (sender plan (suc turn)) ≡ fate → HearsNoAnswer (slot_of list script new numbers k)
    no-answer stays Sound sends = by-sound sends
    no-answer stays Absent sends = by-silence (silent-absent t sends)
    no-answer stays (Listening s) sends = by-silence (silent-listening t s sends)
    no-answer stays (Fallen c s sh) sends = by-silence (silent-fallen t c s sh sends)
    no-answer stays (Falling c s) sends =
        absurd (other (one-stays plan turn (sender plan (suc turn)) k (good_plan t)
        (ap (may_stay plan.nodes turn) sends) stays))

  -- one that was lost, and has had no slot since
  deaf-on : (since : ℕ) → fate_of plan turn k ≡ Falling Receiving since →
      let past = next_past (slot_of list script new numbers k) in
      (past.phase ≡ phase.Left) ⊎ IsFallingAt list plan (suc turn) k Receiving since past
  deaf-on since is =
      let x = slot_of list script new numbers k in
      elim (at-fate t k (Falling Receiving since) node is) [
        | inl left ↦ inl (idle-left x left.0 (unarmed-falling t k node Receiving since is)).0
        | inr at ↦
            let told = told-falling plan turn k since Receiving (good_plan t) is in
            let lost_less : sender plan since < plan.nodes = mod-lt (plan.starter + since) few_nodes in
            let listed = subst (λ n. sender plan since < n) t.planned.follows.nodes lost_less in
            let owner = owner-is t k node at.place in
            let apart : sender plan since ≢ sender plan (suc turn) = λ same.
            let round = turns_apart plan since (suc turn) few_nodes (omega (arith, told.from)) same in
            omega (arith, told.soon, round) in
            let not_owner = λ (same : sender plan since ≡ owner_of x). apart (same ∙ owner) in
            let lost = sender-lost plan turn k since (good_plan t) is in
            let few = nodes-most list t.planned.valid in
            deaf-judges plan turn x (judges t k node at.phase at.place other) since at listed not_owner
            (no-answer at.place (λ hears. HasThird (sender plan (suc turn)) (sender plan since) _ hears (record {
              listed = listed;
              not_self = told.unshown since (omega arith) told.from;
              not_owner = not_owner;
              held = at.lacks refl;
            })
            (has_node-with_member (planned_members plan turn) (sender plan (suc turn)) (sender plan since)
            (omega (arith, listed, few)) lost.member))
            (ap (may_stay plan.nodes turn) is) (fate_of plan turn (sender plan (suc turn))) refl)
      ]

  pub falling-next : (change : Change) (since : ℕ) → fate_of plan turn k ≡ Falling change since →
      let past = next_past (slot_of list script new numbers k) in
      ((past.phase ≡ phase.Left) × (change ≡ Receiving)) ⊎ IsFallingAt list plan (suc turn) k change since past
  falling-next Receiving since is = elim (deaf-on since is) [
    | inl left ↦ inl (left, refl)
    | inr at ↦ inr at
  ]
  falling-next Sending since is =
      let told = told-falling plan turn k since Sending (good_plan t) is in
      absurd (told.unshown since (omega arith) told.from
      (loss-sending plan k since Sending (good_plan t) told.loss refl))
  falling-next Jumping since is =
      let x = slot_of list script new numbers k in
      elim (at-fate t k (Falling Jumping since) node is) [
        | inl left ↦ let deaf = left.1 in cc
        | inr at ↦
            inr (jumped-judges plan turn x (judges t k node at.phase at.place other) since at (jumped-wrong t k node
            since (falling-stays plan turn k since Jumping (good_plan t) other is)))
      ]

  -- one that was lost, and has had its first slot since: no frame answers its own
  module _ (change : Change) (since shown : ℕ) (is : fate_of plan turn k ≡ Fallen change since shown)
      (unarmed : is_armed_by plan (suc turn) k ≡ false) where
    lacks-fallen : HearsMembers (slot_of list script new numbers k) (sender plan (suc turn))
        (with_node (planned_members plan turn) (sender plan (suc turn)))
        → HearsNoAnswer (slot_of list script new numbers k)
    lacks-fallen hears =
        let few = nodes-most list t.planned.valid in
        Lacks (sender plan (suc turn)) _ hears
        (has_node-with_other _ (sender plan (suc turn)) k (omega (arith, node, few)) (λ same. other (sym same))
        ∙ fallen-member plan turn k since shown change (good_plan t) (less-planned t k node) is)

    still-soon : turn < shown + plan.nodes → suc turn < shown + plan.nodes
    still-soon soon = elim (cases_lt (suc turn) (shown + plan.nodes)) [
      | inl before ↦ before
      | inr over ↦
          let now : shown + plan.nodes ≡ suc turn = omega (arith, soon, over) in
          let told = told-fallen plan turn k since shown change (good_plan t) is in
          absurd (other (ap (sender plan) (sym now)
          ∙ round-turn plan shown k few_nodes (less-planned t k node) told.own))
    ]

    pub fallen-next :
        let past = next_past (slot_of list script new numbers k) in
        (past.phase ≡ phase.Left) ⊎ IsFallenAt list plan (suc turn) k since shown past
    fallen-next =
        let x = slot_of list script new numbers k in
        elim (at-fate t k (Fallen change since shown) node is) [
          | inl left ↦ inl (idle-left x left (armed-planned t k node (ap is_lost is) ∙ unarmed)).0
          | inr at ↦
              fallen-judges plan turn x (judges t k node at.phase at.place other) since shown at (no-answer at.place
              lacks-fallen (ap (may_stay plan.nodes turn) is ∙ lt-ltb turn (shown + plan.nodes) at.soon)
              (fate_of plan turn (sender plan (suc turn))) refl) (still-soon at.soon)
        ]
