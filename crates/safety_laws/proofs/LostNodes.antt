-- What a verdict makes of a node's counts, by its ledger.
use Rattle.safety_laws.proofs.Words.{◌≡◌, ◌≢◌, ℕ, suc, ◌+◌, ◌*◌, ◌<◌, ◌≤◌, ℤ, pos, false, length, refl, ap, sym, subst}
use Rattle.safety_laws.proofs.Words.{◌∙◌, ◌⊎◌, inl, inr, arith, Bool, true, List, cond, false_from_ne_true, false≢true}
use Rattle.safety_laws.proofs.Words.{has_node, with_node, without_node, Verdict, is_correct, is_open, judged_members}
use Rattle.safety_laws.proofs.Words.{next_place, Change, Receiving, Jumping, FaultPlan, sender, enters, IsGoodPlan}
use Rattle.safety_laws.proofs.Words.{ledger-told, IsUnanswered, HearsNoAnswer, IsNotAbout, HoldsGroup, HearsNoFrame}
use Rattle.safety_laws.proofs.Words.{NodeSlot, next_past, owner_of, IsJudgedAs, IsJudging, HearsOutside, IsSoundAt}
use Rattle.safety_laws.proofs.Words.{IsFallingAt, IsFallenAt, IsCounted, doubts, Ack, is_accepted, Fallen, fate_of}
use Rattle.safety_laws.proofs.Words.{is_good_slot, is_first_slot, Ledger, with_slot, planned_members, ledger_of}
use Rattle.safety_laws.proofs.Words.{NodePast}
use Rattle.ttp_world.specs.declared.node.Phase.TheVariants as phase
use Rattle.ttp_world.specs.declared.node.Verdict.TheVariants as verdict
use Rattle.safety_laws.proofs.GroupSets.{has_node-taken_out}
use Rattle.safety_laws.proofs.Unanswered.{stays-judged, stays-unanswered, not_held-judging}
use Rattle.safety_laws.proofs.Verdicts.{judged-outside, judged-none, judged-whatever}
use Rattle.ttp_world.specs.declared.node.Ack.TheVariants as ack
use Rattle.ttp_world.specs.Counts.{is_rejection}
use Rattle.safety_laws.proofs.Groups.{holds-correct, holds-wrong, holds-tentative}
use Rattle.safety_laws.proofs.PlanSteps.{members-good, members-wrong, ledger-other, fallen-stays, doubt-apart}
use Rattle.safety_laws.proofs.PlanSteps.{staying-unarmed, doubted-stays}

-- what a verdict makes of the counts
pub record IsCountedOn (past next : NodePast) (v : Verdict) : Type 0 where
  pub accepted : next.accepted ≡ cond (is_correct v) 1 0 + past.accepted
  pub rejected : next.rejected ≡ cond (is_rejection past.ack v) 1 0 + past.rejected
  pub cold_start : next.cold_start ≡ past.cold_start

pub counted-on : (x : NodeSlot) (v : Verdict) (deviation : ℤ) → IsJudgedAs x v deviation
    → IsCountedOn x.past (next_past x) v
counted-on x v deviation judged = record {
  accepted = judged.accepted;
  rejected = judged.rejected;
  cold_start = judged.cold_start;
}

wrong-accepted : (v : Verdict) → is_accepted v ≡ false → is_correct v ≡ false
wrong-accepted verdict.Correct wrong = absurd (false≢true (sym wrong))
wrong-accepted _ wrong = refl

one-at-most : (counts first : Bool) → (counts ≡ true → first ≡ true) → cond counts 1 0 ≤ cond first 1 0
one-at-most true first only = let is = only refl in rw is (omega arith)
one-at-most false first only = omega arith

none-more : (ledger : Ledger) → (ledger.own ≡ true) × (ledger.seen ≡ 0) → (ledger.own ≡ true) × (0 + ledger.seen ≡ 0)
none-more ledger none = (none.0, omega (arith, none.1))

module _ {ledger : Ledger} {past next : NodePast} (counted : IsCounted ledger past) where
  pub by-correct : (first : Bool) → IsCountedOn past next verdict.Correct → next.ack ≡ ack.Closed
      → IsCounted (with_slot true first ledger) next
  by-correct first on closed =
      let none : doubts next.ack ≡ 0 = ap doubts closed in
      record {
        accepted = omega (arith, on.accepted, counted.accepted);
        rejected = omega (arith, on.rejected, none, counted.rejected);
        opened = λ opened. absurd (false≢true (ap is_open (sym closed) ∙ opened));
        cold_start = λ cold. counted.cold_start (sym on.cold_start ∙ cold);
      }

  pub by-wrong : {v : Verdict} (first : Bool) → IsCountedOn past next v → is_accepted v ≡ false
      → (is_rejection past.ack v ≡ true → first ≡ true) → next.ack ≡ past.ack
      → IsCounted (with_slot false first ledger) next
  by-wrong {v = v} first on wrong only same =
      let none : cond {A = ℕ} (is_correct v) 1 0 ≡ 0 = ap (λ b. cond {A = ℕ} b 1 0) (wrong-accepted v wrong) in
      let more = one-at-most (is_rejection past.ack v) first only in
      let still : doubts next.ack ≡ doubts past.ack = ap doubts same in
      record {
        accepted = omega (arith, on.accepted, none, counted.accepted);
        rejected = omega (arith, on.rejected, more, still, counted.rejected);
        opened = λ opened. none-more ledger (counted.opened (ap is_open (sym same) ∙ opened));
        cold_start = λ cold. counted.cold_start (sym on.cold_start ∙ cold);
      }

  pub by-tentative : (y : ℕ) → IsCountedOn past next verdict.Tentative → past.ack ≡ ack.First → next.ack ≡ ack.Doubt y
      → IsCounted (with_slot false true ledger) next
  by-tentative y on first doubt =
      let one : doubts next.ack ≡ 1 = ap doubts doubt in
      record {
        accepted = omega (arith, on.accepted, counted.accepted);
        rejected = omega (arith, on.rejected, one, counted.rejected);
        opened = λ opened. none-more ledger (counted.opened (ap is_open first));
        cold_start = λ cold. counted.cold_start (sym on.cold_start ∙ cold);
      }

-- A sound node in another's slot: by its verdict it is a sound node of the plan after the slot.

about-other : (a : Ack) (j : ℕ) → ((y : ℕ) → a ≡ ack.Doubt y → y ≢ j) → IsNotAbout j a
about-other (ack.Doubt y) j apart = apart y refl
about-other _ j apart = tt

-- what is so of a good plan and of a node that judges in its next turn
pub record IsSoundJudge (plan : FaultPlan) (turn : ℕ) (x : NodeSlot) : Type 0 where
  pub good : IsGoodPlan plan
  pub nodes : plan.nodes ≡ length x.list.slots
  pub judging : IsJudging x
  pub at : IsSoundAt x.list plan turn x.node x.past
  pub owner : owner_of x ≡ sender plan (suc turn)
  pub entered : enters plan (suc turn) x.node ≡ false

module _ {plan : FaultPlan} {turn : ℕ} {x : NodeSlot} (is : IsSoundJudge plan turn x) where
  others-slot : sender plan (suc turn) ≢ x.node
  others-slot same = is.judging.other (is.owner ∙ same)

  -- it does not doubt the owner
  pub not_about : IsNotAbout (owner_of x) x.past.ack
  not_about =
      about-other x.past.ack (owner_of x) (λ y doubt same.
      let found = is.at.doubted y doubt in
      doubt-apart plan turn x.node y found.0 is.good (subst (λ n. x.node < n) (sym is.nodes) is.judging.node)
      others-slot (is.at.counted.opened (ap is_open doubt)).0 found.1 (same ∙ is.owner))

  counted-next : (good first : Bool) → is_good_slot plan (suc turn) ≡ good → is_first_slot plan (suc turn) ≡ first
      → IsCounted (with_slot good first (ledger_of plan turn x.node)) (next_past x)
      → IsCounted (ledger_of plan (suc turn) x.node) (next_past x)
  counted-next good first good_is first_is counted =
      subst (λ (l : Ledger). IsCounted l (next_past x)) (sym (ledger-other plan turn x.node others-slot is.entered
      ∙ (λ i. with_slot (good_is i) (first_is i) (ledger_of plan turn x.node)))) counted

  -- the frame of a good slot, judged correct
  pub sound-correct : (deviation : ℤ) → is_good_slot plan (suc turn) ≡ true → IsJudgedAs x verdict.Correct deviation
      → IsSoundAt x.list plan (suc turn) x.node (next_past x)
  sound-correct deviation good_is judged =
      let holds = holds-correct x (planned_members plan turn) is.judging is.at.group deviation judged in
      record {
        phase = judged.phase;
        place = judged.place ∙ ap (next_place x.list) is.at.place;
        group = subst (λ (group : List ℕ). HoldsGroup x.list x.node group (next_past x))
            (ap (with_node (planned_members plan turn)) is.owner ∙ sym (members-good plan turn good_is)) holds.0;
        counted = counted-next true _ good_is refl
            (by-correct is.at.counted _ (counted-on x _ deviation judged) holds.1);
        doubted = λ y doubt. absurd (false≢true (ap is_open (sym holds.1 ∙ doubt)));
        fresh = λ own. absurd (others-slot own);
      }

  -- what is not accepted, where the slot is not good
  pub sound-wrong : (v : Verdict) (deviation : ℤ) → is_good_slot plan (suc turn) ≡ false → IsJudgedAs x v deviation
      → is_accepted v ≡ false → (is_rejection x.past.ack v ≡ true → is_first_slot plan (suc turn) ≡ true)
      → IsSoundAt x.list plan (suc turn) x.node (next_past x)
  sound-wrong v deviation wrong_is judged wrong only =
      let holds = holds-wrong x (planned_members plan turn) is.judging is.at.group v deviation judged wrong not_about in
      record {
        phase = judged.phase;
        place = judged.place ∙ ap (next_place x.list) is.at.place;
        group = subst (λ (group : List ℕ). HoldsGroup x.list x.node group (next_past x))
            (ap (without_node (planned_members plan turn)) is.owner ∙ sym (members-wrong plan turn wrong_is)) holds.0;
        counted = counted-next false _ wrong_is refl
            (by-wrong is.at.counted _ (counted-on x v deviation judged) wrong only holds.1);
        doubted = λ y doubt.
            let found = is.at.doubted y (sym holds.1 ∙ doubt) in
            let less = subst (λ n. x.node < n) (sym is.nodes) is.judging.node in
            let unarmed = staying-unarmed plan turn y y is.good
            (doubted-stays plan turn x.node y found.0 is.good less found.1) in (
              found.0,
              fallen-stays plan turn y (ledger_of plan turn x.node).base found.0 Receiving is.good unarmed found.1
                  ∙ ap (λ (l : Ledger). Fallen Receiving l.base found.0)
                  (sym (ledger-other plan turn x.node others-slot is.entered)),
            );
        fresh = λ own. absurd (others-slot own);
      }

  -- the frame of a receiver that lost this node's newest frame, judged tentative
  pub sound-tentative : (deviation : ℤ) (shown : ℕ) → is_good_slot plan (suc turn) ≡ false
      → is_first_slot plan (suc turn) ≡ true → x.past.ack ≡ ack.First → IsJudgedAs x verdict.Tentative deviation
      → fate_of plan (suc turn) (owner_of x) ≡ Fallen Receiving (ledger_of plan turn x.node).base shown
      → IsSoundAt x.list plan (suc turn) x.node (next_past x)
  sound-tentative deviation shown wrong_is first_is first judged fallen =
      let holds = holds-tentative x (planned_members plan turn) is.judging is.at.group deviation judged first in
      record {
        phase = judged.phase;
        place = judged.place ∙ ap (next_place x.list) is.at.place;
        group = subst (λ (group : List ℕ). HoldsGroup x.list x.node group (next_past x))
            (ap (without_node (planned_members plan turn)) is.owner ∙ sym (members-wrong plan turn wrong_is)) holds.0;
        counted = counted-next false true wrong_is first_is
            (by-tentative is.at.counted (owner_of x) (counted-on x _ deviation judged) first holds.1);
        doubted = λ y doubt. (
          shown,
          let same : y ≡ owner_of x = let both : ack.Doubt y ≡ ack.Doubt (owner_of x) = sym doubt ∙ holds.1 in cc in
              ap (fate_of plan (suc turn)) same ∙ fallen
              ∙ ap (λ (l : Ledger). Fallen Receiving l.base shown)
              (sym (ledger-other plan turn x.node others-slot is.entered)),
        );
        fresh = λ own. absurd (others-slot own);
      }

-- A lost node in another's slot, and a node that is lost in one.

-- by its judgement, which is not correct, a node notes nothing
pub record IsJudgedWrong (x : NodeSlot) : Type 0 where
  pub verdict : Verdict
  pub deviation : ℤ
  pub judged : IsJudgedAs x verdict deviation
  pub wrong : is_correct verdict ≡ false

-- no frame comes to a node inside its window
pub data HearsLate (x : NodeSlot) : Type 0 where
  NoFrame : HearsNoFrame x.hearing → HearsLate x
  Outside : (sender : ℕ) → HearsOutside x sender → HearsLate x

pub late-wrong : (x : NodeSlot) → IsJudging x → HearsLate x → IsJudgedWrong x
late-wrong x is (NoFrame none) = elim (judged-none x is none) [
  | inl null ↦ record { verdict = verdict.Null; deviation = pos 0; judged = null; wrong = refl }
  | inr invalid ↦ record { verdict = verdict.Invalid; deviation = pos 0; judged = invalid; wrong = refl }
]
late-wrong x is (Outside sender hears) = record {
  verdict = verdict.Invalid;
  deviation = x.hearing.deviation sender;
  judged = judged-outside x sender is hears;
  wrong = refl;
}

module _ (plan : FaultPlan) (turn : ℕ) (x : NodeSlot) (judging : IsJudging x) where
  falling-by : (change : Change) (since : ℕ) (v : Verdict) (deviation : ℤ)
      → IsFallingAt x.list plan turn x.node change since x.past → IsJudgedAs x v deviation
      → (change ≡ Receiving → has_node (next_past x).members (sender plan since) ≡ false)
      → (IsUnanswered x.node x.past.ack → IsUnanswered x.node (next_past x).ack)
      → IsFallingAt x.list plan (suc turn) x.node change since (next_past x)
  falling-by change since v deviation at judged lacks still = record {
    phase = judged.phase;
    place = judged.place ∙ ap (next_place x.list) at.place;
    later = judged.cold_start ∙ at.later;
    lacks = lacks;
    waits = λ before is own. still (at.waits before is own);
  }

  -- what is not answered stays so where the node does not leave
  still-unanswered : HearsNoAnswer x → (next_past x).phase ≡ phase.Active → IsUnanswered x.node x.past.ack
      → IsUnanswered x.node (next_past x).ack
  still-unanswered answer active unanswered = elim (stays-unanswered x judging unanswered answer) [
    | inl stays ↦ stays.ack
    | inr left ↦ let both : phase.Active ≡ phase.Left = sym active ∙ left.phase in cc
  ]

  -- before its first own slot a receiver that was lost judges whatever comes, or leaves; the sender that it lacks is
  -- not the owner
  pub deaf-judges : (since : ℕ) → IsFallingAt x.list plan turn x.node Receiving since x.past
      → sender plan since < length x.list.slots → sender plan since ≢ owner_of x → HearsNoAnswer x
      → ((next_past x).phase ≡ phase.Left) ⊎ IsFallingAt x.list plan (suc turn) x.node Receiving since (next_past x)
  deaf-judges since at listed apart answer = elim (judged-whatever x judging) [
    | inl some ↦
        inr (falling-by Receiving since some.0 some.1.0 at some.1.1
        (λ deaf. not_held-judging x (sender plan since) judging listed apart (at.lacks deaf))
        (still-unanswered answer some.1.1.phase))
    | inr left ↦ inl left.phase
  ]

  -- a node whose clock jumped judges, and does not leave, while no frame comes inside its window
  pub jumped-judges : (since : ℕ) → IsFallingAt x.list plan turn x.node Jumping since x.past → IsJudgedWrong x
      → IsFallingAt x.list plan (suc turn) x.node Jumping since (next_past x)
  jumped-judges since at wrong =
      falling-by Jumping since wrong.verdict wrong.deviation at wrong.judged (λ deaf. cc)
      (λ unanswered. (stays-judged x wrong.verdict wrong.deviation judging unanswered wrong.wrong wrong.judged).ack)

  -- after it, no frame answers its own
  pub fallen-judges : (since shown : ℕ) → IsFallenAt x.list plan turn x.node since shown x.past → HearsNoAnswer x
      → suc turn < shown + plan.nodes
      → ((next_past x).phase ≡ phase.Left) ⊎ IsFallenAt x.list plan (suc turn) x.node since shown (next_past x)
  fallen-judges since shown at answer soon = elim (stays-unanswered x judging at.unanswered answer) [
    | inl stays ↦ inr (record {
      phase = stays.judged.phase;
      place = stays.judged.place ∙ ap (next_place x.list) at.place;
      later = stays.judged.cold_start ∙ at.later;
      unanswered = stays.ack;
      soon = soon;
      early = at.early;
    })
    | inr left ↦ inl left.phase
  ]

-- two rounds after the start no sound node's newest own frame is a cold start
pub sound-late : (plan : FaultPlan) (turn : ℕ) (x : NodeSlot) → IsGoodPlan plan → x.node < plan.nodes
    → IsSoundAt x.list plan turn x.node x.past → 2 * plan.nodes ≤ suc turn → x.past.cold_start ≡ false
sound-late plan turn x good less at late =
    false_from_ne_true x.past.cold_start (λ cold.
    let told = ledger-told plan turn x.node good less in
    let first = (at.counted.cold_start cold).1 in
    omega (arith, first, told.near, late, good.count))

module _ {plan : FaultPlan} {turn : ℕ} {x : NodeSlot} (is : IsSoundJudge plan turn x) (late : 2 * plan.nodes ≤ suc turn)
  where
    falls-by : (change : Change) (v : Verdict) (deviation : ℤ) → IsJudgedAs x v deviation → is_correct v ≡ false
        → (change ≡ Receiving → has_node (next_past x).members (sender plan (suc turn)) ≡ false)
        → IsFallingAt x.list plan (suc turn) x.node change (suc turn) (next_past x)
    falls-by change v deviation judged wrong lacks = record {
      phase = judged.phase;
      place = judged.place ∙ ap (next_place x.list) is.at.place;
      later = judged.cold_start
          ∙ sound-late plan turn x is.good (subst (λ n. x.node < n) (sym is.nodes) is.judging.node) is.at late;
      lacks = lacks;
      waits = λ before is_before own.
          let same : before ≡ turn = omega (arith, is_before) in
          let first = is.at.fresh (ap (sender plan) (sym same) ∙ own) in
          (stays-judged x v deviation is.judging (subst (IsUnanswered x.node) (sym first) tt) wrong judged).ack;
    }

    without_owner : (v : Verdict) (deviation : ℤ) → IsJudgedAs x v deviation
        → ((v ≡ verdict.Null) ⊎ (v ≡ verdict.Invalid)) → has_node (next_past x).members (sender plan (suc turn)) ≡ false
    without_owner v deviation judged how =
        ap (has_node (next_past x).members) (sym is.owner) ∙ ap (λ s. has_node s (owner_of x)) judged.members ∙ by v how
      where
        by : (v : Verdict) → ((v ≡ verdict.Null) ⊎ (v ≡ verdict.Invalid))
            → has_node (judged_members x.past.members x.past.ack v (owner_of x)) (owner_of x) ≡ false
        by verdict.Correct (inl is) = cc
        by verdict.Correct (inr is) = cc
        by verdict.Tentative (inl is) = cc
        by verdict.Tentative (inr is) = cc
        by _ how = has_node-taken_out x.past.members (owner_of x)

    -- a receiver to which no frame comes
    pub deaf-falls : HearsNoFrame x.hearing
        → IsFallingAt x.list plan (suc turn) x.node Receiving (suc turn) (next_past x)
    deaf-falls none = elim (judged-none x is.judging none) [
      | inl null ↦
          falls-by Receiving verdict.Null (pos 0) null refl (λ deaf. without_owner verdict.Null (pos 0) null (inl refl))
      | inr invalid ↦
          falls-by Receiving verdict.Invalid (pos 0) invalid refl
          (λ deaf. without_owner verdict.Invalid (pos 0) invalid (inr refl))
    ]

    -- a node whose clock jumps
    pub jumped-falls : IsJudgedWrong x → IsFallingAt x.list plan (suc turn) x.node Jumping (suc turn) (next_past x)
    jumped-falls wrong = falls-by Jumping wrong.verdict wrong.deviation wrong.judged wrong.wrong (λ deaf. cc)
