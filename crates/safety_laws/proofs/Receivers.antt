-- A sound node in another's slot, by the fate of the slot's sender: it is what the plan says after it.
use Rattle.safety_laws.proofs.Words.{◌≡◌, ◌≢◌, ℕ, suc, ◌+◌, ◌<◌, pos, Bool, true, false, List, length, refl, ap, sym}
use Rattle.safety_laws.proofs.Words.{subst, ◌∙◌, ◌⊎◌, inl, inr, mod-lt, arith, cases_eq, false≢true, has_node}
use Rattle.safety_laws.proofs.Words.{with_node, Medl, Ack, Script, next_place, ClusterStart, loses, is_within_window}
use Rattle.safety_laws.proofs.Words.{SlotNumbers, Numbers, slot_after, deviation_in, world, Receiving, Jumping}
use Rattle.safety_laws.proofs.Words.{FaultPlan, sender, Sound, Falling, Fallen, fate_of, is_sound_after, may_stay}
use Rattle.safety_laws.proofs.Words.{is_good_slot, is_first_slot, planned_members, ledger_of, one-stays, sender-lost}
use Rattle.safety_laws.proofs.Words.{HearsNoFrame, HearsSilence, NodeSlot, next_past, IsJudgedAs, HearsMembers}
use Rattle.safety_laws.proofs.Words.{HearsOutside, IsSoundAt, IsFallingAt, IsTurn}
use Rattle.ttp_world.specs.declared.node.Ack.TheVariants as ack
use Rattle.ttp_world.specs.declared.node.Verdict.TheVariants as verdict
use Rattle.safety_laws.specs.Kept.{IsHeardByPlan}
use Rattle.safety_laws.proofs.Groups.{correct-group, incorrect-group, lacked-group}
use Rattle.safety_laws.proofs.GroupSets.{has_node-with_other}
use Rattle.safety_laws.proofs.OneSender.{members-alone, outside-alone, none-alone, silent-none_sends}
use Rattle.safety_laws.proofs.Verdicts.{judged-outside, judged-none, judged-silent}
use Rattle.safety_laws.proofs.Arrivals.{at-fate, hears-planned}
use Rattle.safety_laws.proofs.PlanSteps.{doubted-stays, sound-unentered}
use Rattle.safety_laws.proofs.LostNodes.{IsSoundJudge, not_about, sound-correct, sound-wrong, sound-tentative}
use Rattle.safety_laws.proofs.PlanTurns.{NextSound, SendsNone, SendsOne, slot_of, slot_number, owner-is, judges, e-node}
use Rattle.safety_laws.proofs.PlanTurns.{less-planned, good_plan}
use Rattle.safety_laws.proofs.SlotKinds.{sender-stays as sender-unentered}

-- A sound node that judges, where the slot is not good: what leaves it sound.

module _ {plan : FaultPlan} {turn : ℕ} {x : NodeSlot} (is : IsSoundJudge plan turn x)
    (wrong : is_good_slot plan (suc turn) ≡ false) where
  -- nobody sends
  pub silent-sound : HearsSilence x.hearing → IsSoundAt x.list plan (suc turn) x.node (next_past x)
  silent-sound silent =
      sound-wrong is verdict.Null (pos 0) wrong (judged-silent x is.judging silent) refl
      (λ counts. absurd (false≢true counts))

  module _ (first : is_first_slot plan (suc turn) ≡ true) where
    -- no frame comes in a lost node's first slot, or one outside the window
    pub deaf-sound : HearsNoFrame x.hearing → IsSoundAt x.list plan (suc turn) x.node (next_past x)
    deaf-sound none = elim (judged-none x is.judging none) [
      | inl null ↦ sound-wrong is verdict.Null (pos 0) wrong null refl (λ counts. first)
      | inr invalid ↦ sound-wrong is verdict.Invalid (pos 0) wrong invalid refl (λ counts. first)
    ]

    pub outside-sound : (p : ℕ) → HearsOutside x p → IsSoundAt x.list plan (suc turn) x.node (next_past x)
    outside-sound p hears =
        sound-wrong is verdict.Invalid (x.hearing.deviation p) wrong (judged-outside x p is.judging hears)
        refl (λ counts. first)

    -- a frame comes without a member of the plan, that of the slot in which its sender was lost
    incorrect-sound : (p : ℕ) → IsJudgedAs x verdict.Incorrect (x.hearing.deviation p)
        → IsSoundAt x.list plan (suc turn) x.node (next_past x)
    incorrect-sound p judged =
        sound-wrong is verdict.Incorrect (x.hearing.deviation p) wrong judged refl (λ counts. first)

-- The frame of a receiver in its first slot since it lost the frame of a sender.

pub record IsDeafSender (plan : FaultPlan) (turn since : ℕ) : Type 0 where
  pub falling : fate_of plan turn (sender plan (suc turn)) ≡ Falling Receiving since
  pub shown : fate_of plan (suc turn) (sender plan (suc turn)) ≡ Fallen Receiving since (suc turn)

module _ {plan : FaultPlan} {turn since : ℕ} {x : NodeSlot} (is : IsSoundJudge plan turn x)
    (wrong : is_good_slot plan (suc turn) ≡ false) (first : is_first_slot plan (suc turn) ≡ true)
    (deaf : IsDeafSender plan turn since) where
  -- a node that is not this sender, or is and has been acknowledged, judges it incorrect
  by_other : (members : List ℕ) → HearsMembers x (sender plan (suc turn)) members
      → has_node members (sender plan since) ≡ false → (sender plan since ≢ x.node) ⊎ (x.past.ack ≡ ack.Closed)
      → IsSoundAt x.list plan (suc turn) x.node (next_past x)
  by_other members hears lacks other =
      let lost = sender-lost plan turn (sender plan (suc turn)) since is.good deaf.falling in
      let less : sender plan since < plan.nodes = mod-lt (plan.starter + since) (omega (arith, is.good.count)) in
      incorrect-sound is wrong first (sender plan (suc turn))
      (incorrect-group x (planned_members plan turn) is.judging is.at.group (sender plan (suc turn))
      (sender plan since) members (subst (λ n. sender plan since < n) is.nodes less) lost.member other lacks hears)

  -- the sender itself, which waits for its first successor, judges it incorrect or doubts it
  by_sender : (members : List ℕ) → HearsMembers x (sender plan (suc turn)) members
      → has_node members (sender plan since) ≡ false → sender plan since ≡ x.node → x.past.ack ≡ ack.First
      → IsSoundAt x.list plan (suc turn) x.node (next_past x)
  by_sender members hears lacks same waits =
      let lost = sender-lost plan turn (sender plan (suc turn)) since is.good deaf.falling in
      elim (lacked-group x (planned_members plan turn) is.judging is.at.group (sender plan (suc turn)) members waits
      (ap (has_node members) (sym same) ∙ lacks) hears) [
        | inl incorrect ↦ incorrect-sound is wrong first (sender plan (suc turn)) incorrect
        | inr tentative ↦
            sound-tentative is (x.hearing.deviation (sender plan (suc turn))) (suc turn) wrong first waits tentative
            (ap (fate_of plan (suc turn)) is.owner ∙ deaf.shown ∙ ap (λ base. Fallen Receiving base (suc turn))
            (sym lost.base ∙ ap (λ k. (ledger_of plan turn k).base) same))
      ]

  -- it does not doubt another node by then
  no_doubt : (y : ℕ) → x.past.ack ≡ ack.Doubt y → ⊥
  no_doubt y doubt =
      let found = is.at.doubted y doubt in
      let stays = doubted-stays plan turn x.node y found.0 is.good
      (subst (λ n. x.node < n) (sym is.nodes) is.judging.node) found.1 in
      let same : y ≡ sender plan (suc turn) =
      one-stays plan turn y (sender plan (suc turn)) is.good stays (ap (may_stay plan.nodes turn) deaf.falling) in
      let both = sym found.1 ∙ ap (fate_of plan turn) same ∙ deaf.falling in
      cc

  pub shown-sound : (members : List ℕ) → HearsMembers x (sender plan (suc turn)) members
      → has_node members (sender plan since) ≡ false → IsSoundAt x.list plan (suc turn) x.node (next_past x)
  shown-sound members hears lacks = elim (cases_eq (sender plan since) x.node) [
    | inl same ↦ by x.past.ack refl same
    | inr other ↦ by_other members hears lacks (inl other)
  ]
    where
      by : (a : Ack) → x.past.ack ≡ a → sender plan since ≡ x.node
          → IsSoundAt x.list plan (suc turn) x.node (next_past x)
      by ack.Closed closed same = by_other members hears lacks (inr closed)
      by ack.First waits same = by_sender members hears lacks same waits
      by (ack.Doubt y) doubt same = absurd (no_doubt y doubt)

-- In a turn of a world.

module _ {list : Medl} {script : Script} {start : ClusterStart} {plan : FaultPlan} {turn : ℕ} {new : SlotNumbers}
    {numbers : Numbers} (t : IsTurn list script start plan turn new numbers) (k : ℕ) (node : k < length list.slots)
    (other : sender plan (suc turn) ≢ k) (sound : fate_of plan turn k ≡ Sound) where
  pub sound-judge : IsSoundJudge plan turn (slot_of list script new numbers k)
  sound-judge =
      let at = at-fate t k Sound node sound in
      record {
        good = good_plan t;
        nodes = t.planned.follows.nodes;
        judging = judges t k node at.phase at.place other;
        at = at;
        owner = owner-is t k node at.place;
        entered = sound-unentered plan turn k (good_plan t) sound;
      }

  hearing : IsHeardByPlan script start plan (suc turn)
  hearing = t.planned.follows.hearing (suc turn) t.within

  -- the frame of a sound sender is correct
  pub judges-good : is_good_slot plan (suc turn) ≡ true → fate_of plan turn (sender plan (suc turn)) ≡ Sound
      → is_sound_after plan (suc turn) k ≡ true → IsJudgedAs (slot_of list script new numbers k) verdict.Correct
      ((slot_of list script new numbers k).hearing.deviation (sender plan (suc turn)))
  judges-good good_is sends stays =
      let e = sender plan (suc turn) in
      let x = slot_of list script new numbers k in
      let judge = sound-judge in
      let number = slot_number t in
      let kept = ap (λ n. loses script e n k) number
      ∙ hearing.heard k (less-planned t k node) (λ same. other (sym same)) good_is stays in
      let within = t.clocks.within k e node (e-node t) stays good_is
      judge.entered (sender-unentered plan (suc turn) (good_plan t)) in
      let hears = hears-planned t sends k judge.at.place kept within in
      correct-group x (planned_members plan turn) judge.judging judge.at.group e (not_about judge)
      (subst (λ o. HearsMembers x e (with_node (planned_members plan turn) o)) (sym judge.owner) hears)

  pub receives-good : is_good_slot plan (suc turn) ≡ true → fate_of plan turn (sender plan (suc turn)) ≡ Sound
      → is_sound_after plan (suc turn) k ≡ true → NextSound t k
  receives-good good_is sends stays = sound-correct sound-judge _ good_is (judges-good good_is sends stays)

  module _ (wrong : is_good_slot plan (suc turn) ≡ false) where
    -- where nobody sends it is null
    pub receives-silence : SendsNone t → NextSound t k
    receives-silence none =
        silent-sound sound-judge wrong (silent-none_sends list script (world list script numbers) _ k none)

    module _ (first : is_first_slot plan (suc turn) ≡ true) (alone : SendsOne t)
      where
        pub receives-none : loses script (sender plan (suc turn)) (length (world list script numbers)) k ≡ true
            → NextSound t k
        receives-none lost = deaf-sound sound-judge wrong first (none-alone k alone lost)

        receives-outside : loses script (sender plan (suc turn)) (length (world list script numbers)) k ≡ false
            → is_within_window list
            (deviation_in (slot_after list script (world list script numbers)) k (sender plan (suc turn))) ≡ false
            → NextSound t k
        receives-outside kept outside =
            outside-sound sound-judge wrong first (sender plan (suc turn)) (outside-alone k alone kept outside)

        -- the frame of a node whose clock jumped comes outside the window, or not at all
        pub receives-jumped : (since : ℕ) → is_sound_after plan (suc turn) k ≡ true
            → fate_of plan (suc turn) (sender plan (suc turn)) ≡ Fallen Jumping since (suc turn) → NextSound t k
        receives-jumped since stays jumped = by _ refl
          where
            by : (lost : Bool) → loses script (sender plan (suc turn)) (length (world list script numbers)) k ≡ lost
                → NextSound t k
            by true lost = receives-none lost
            by false kept =
                receives-outside kept (t.clocks.frame k (sender plan (suc turn)) since node (e-node t) stays
                sound-judge.entered jumped)

        -- the frame of a receiver that was lost
        pub receives-deaf : (since : ℕ) → IsDeafSender plan turn since
            → IsFallingAt list plan turn (sender plan (suc turn)) Receiving since
            (slot_of list script new numbers (sender plan (suc turn))).past → sender plan since ≢ sender plan (suc turn)
            → NextSound t k
        receives-deaf since deaf at apart = by _ _ refl refl
          where
            by : (lost within : Bool)
                → loses script (sender plan (suc turn)) (length (world list script numbers)) k ≡ lost
                → is_within_window list
                (deviation_in (slot_after list script (world list script numbers)) k (sender plan (suc turn))) ≡ within
                → NextSound t k
            by true within lost _ = receives-none lost
            by false false kept outside = receives-outside kept outside
            by false true kept inside =
                let e = sender plan (suc turn) in
                let judge = sound-judge in
                let hears = members-alone k alone kept (ap (next_place list) (at.place ∙ sym judge.at.place)) inside in
                let p_less : sender plan since < plan.nodes =
                mod-lt (plan.starter + since) (omega (arith, (good_plan t).count)) in
                shown-sound judge wrong first deaf _ hears
                (has_node-with_other (slot_of list script new numbers e).past.members e (sender plan since)
                (omega (arith, p_less, (good_plan t).count.1)) apart ∙ at.lacks refl)
