-- What the fates of a good plan tell.
use Rattle.safety_laws.proofs.PlanWords.{◌≡◌, ◌≢◌, ℕ, zero, suc, ◌+◌, ◌*◌, ◌<◌, ◌≤◌}
use Rattle.safety_laws.proofs.PlanWords.{Bool, true, false, cond, Option, Some}
use Rattle.safety_laws.proofs.PlanWords.{None, refl, ap, sym, subst, ◌∙◌, inl, inr, arith, ◌==◌, cases_lt, cases_eq}
use Rattle.safety_laws.proofs.PlanWords.{eqb-true, eqb-false, both_ways, ltb-true, le-ltb, false_from_ne_true, Contains}
use Rattle.safety_laws.proofs.PlanWords.{same_Some, eq-or-lt_of_le, has_node, Change}
use Rattle.safety_laws.proofs.PlanWords.{Sending, Incident, Return, FaultPlan}
use Rattle.safety_laws.proofs.PlanWords.{sender, incident_at, is_armed_by, enters, Fate, Absent, Sound, Falling, Fallen}
use Rattle.safety_laws.proofs.PlanWords.{Listening, fate_at_begin, struck, turned}
use Rattle.safety_laws.proofs.PlanWords.{fate_of, is_lost, lost_since, may_stay}
use Rattle.safety_laws.proofs.PlanWords.{IsGoodPlan, IsLossOf, IsTold}
use Rattle.safety_laws.specs.Told.{IsFallen, IsListening}
use Rattle.safety_laws.proofs.FateSteps.{next-same, next-entered, next-armed}
use Rattle.safety_laws.proofs.Returns.{armed-is, enters-by, armed-lost, armed-quiet, armed-late, enters-late}
use Rattle.safety_laws.proofs.Tests.{never-found}
use Rattle.safety_laws.proofs.Turns.{next_turn}

-- no incident comes at the start
pub none-first : (plan : FaultPlan) → IsGoodPlan plan → incident_at plan 0 ≡ None
none-first plan good =
    never-found (incident_at plan 0) (λ incident found.
    let late = good.late 0 incident found in
    omega (arith, late, good.count))

-- the losses of a good plan
pub loss-sending : (plan : FaultPlan) (k since : ℕ) (change : Change) → IsGoodPlan plan → IsLossOf plan k change since
    → change ≡ Sending → sender plan since ≡ k
loss-sending plan k zero change good loss is = absurd (omega (arith, loss.late, good.count))
loss-sending plan k (suc slot) change good loss is =
    (good.losses slot loss.incident loss.found).sending (loss.how ∙ is) ∙ loss.node

pub loss-node : (plan : FaultPlan) (k since : ℕ) (change : Change) → IsGoodPlan plan → IsLossOf plan k change since
    → k < plan.nodes
loss-node plan k zero change good loss = absurd (omega (arith, loss.late, good.count))
loss-node plan k (suc slot) change good loss =
    subst (λ j. j < plan.nodes) loss.node (good.losses slot loss.incident loss.found).node

-- One slot.

told-begin : (plan : FaultPlan) (k : ℕ) (own begins : Bool) → IsTold plan 0 k (turned own 0 (cond begins Sound Absent))
told-begin plan k true true = tt
told-begin plan k true false = tt
told-begin plan k false true = tt
told-begin plan k false false = tt

fallen-kept : (plan : FaultPlan) (slot k since shown : ℕ) (change : Change) → IsFallen plan slot k change since shown
    → IsFallen plan (suc slot) k change since shown
fallen-kept plan slot k since shown change told = record {
  loss = told.loss;
  from = (told.from.0, omega (arith, told.from.1));
  soon = told.soon;
  own = told.own;
  sending = told.sending;
}

-- the slot in which a node enters is still to come, where it does not enter in this one
not-yet : (plan : FaultPlan) (r : Return) (slot k : ℕ) → Contains plan.returns r → r.node ≡ k → slot ≤ r.entered
    → enters plan slot k ≡ false → slot < plan.slots → slot < r.entered
not-yet plan r slot k among node to none within = elim (eq-or-lt_of_le to) [
  | inl same ↦
      absurd (both_ways _ none
      ((λ i. enters plan (same i) (sym node i)) ∙ enters-by plan r among (omega (arith, same, within))))
  | inr less ↦ less
]

listening-kept : (plan : FaultPlan) (slot k since : ℕ) → enters plan (suc slot) k ≡ false
    → IsListening plan slot k since
    → IsListening plan (suc slot) k since
listening-kept plan slot k since none told =
    let r = told.return in
    let waits : slot < plan.slots → slot < r.entered = told.waits in
    record {
      return = told.return;
      among = told.among;
      node = told.node;
      armed = told.armed;
      from = omega (arith, told.from);
      waits = λ within.
          let before = waits (omega (arith, within)) in
          not-yet plan told.return (suc slot) k told.among told.node (omega (arith, before)) none within;
    }

-- of a node that no incident loses, and that neither listens again nor enters in this slot
told-kept : (plan : FaultPlan) (slot k : ℕ) (own : Bool) (fate : Fate) → IsGoodPlan plan
    → enters plan (suc slot) k ≡ false
    → (sender plan (suc slot) == k) ≡ own → IsTold plan slot k fate
    → IsTold plan (suc slot) k (turned own (suc slot) fate)
told-kept plan slot k true Absent good none turn told = tt
told-kept plan slot k false Absent good none turn told = tt
told-kept plan slot k true Sound good none turn told = tt
told-kept plan slot k false Sound good none turn told = tt
told-kept plan slot k true (Listening since) good none turn told = listening-kept plan slot k since none told
told-kept plan slot k false (Listening since) good none turn told = listening-kept plan slot k since none told
told-kept plan slot k true (Falling change since) good none turn told = record {
  loss = told.loss;
  from = (omega (arith, told.from), omega arith);
  soon = told.soon;
  own = eqb-true _ _ turn;
  sending = λ is.
      absurd (told.unshown since (omega arith) told.from (loss-sending plan k since change good told.loss is));
}
told-kept plan slot k false (Falling change since) good none turn told =
    let less = loss-node plan k since change good told.loss in
    let next = next_turn plan since k (omega (arith, good.count)) less in
    let unshown : (t : ℕ) → since ≤ t → t ≤ suc slot → sender plan t ≢ k =
    λ t from to at. elim (eq-or-lt_of_le to) [
      | inl same ↦ eqb-false _ _ turn (ap (sender plan) (sym same) ∙ at)
      | inr before ↦ told.unshown t from (omega arith) at
    ] in
    let later : suc slot < next.0 = elim (cases_lt (suc slot) next.0) [
      | inl less ↦ less
      | inr not ↦ absurd (unshown next.0 next.1.0 not next.1.2)
    ] in
    record {
      loss = told.loss;
      from = omega (arith, told.from);
      soon = omega (arith, later, next.1.1);
      unshown = unshown;
    }
told-kept plan slot k true (Fallen change since shown) good none turn told =
    fallen-kept plan slot k since shown change told
told-kept plan slot k false (Fallen change since shown) good none turn told =
    fallen-kept plan slot k since shown change told

-- of a node that one loses
told-lost : (plan : FaultPlan) (slot k : ℕ) (own : Bool) (incident : Incident) → IsGoodPlan plan
    → (sender plan (suc slot) == k) ≡ own → incident_at plan (suc slot) ≡ Some incident → incident.node ≡ k
    → IsTold plan (suc slot) k (turned own (suc slot) (Falling incident.change (suc slot)))
told-lost plan slot k own incident good turn found node =
    let loss : IsLossOf plan k incident.change (suc slot) =
    record {
      incident = incident;
      found = found;
      node = node;
      how = refl;
      late = good.late (suc slot) incident found;
    } in
    by own turn loss
  where
    by : (own : Bool) → (sender plan (suc slot) == k) ≡ own → IsLossOf plan k incident.change (suc slot)
        → IsTold plan (suc slot) k (turned own (suc slot) (Falling incident.change (suc slot)))
    by true turn loss = record {
      loss = loss;
      from = (omega arith, omega arith);
      soon = omega (arith, good.count);
      own = eqb-true _ _ turn;
      sending = λ is. refl;
    }
    by false turn loss = record {
      loss = loss;
      from = omega arith;
      soon = omega (arith, good.count);
      unshown = λ t from to at.
          let same : t ≡ suc slot = omega arith in
          eqb-false _ _ turn (ap (sender plan) (sym same) ∙ at);
    }

told-hit : (plan : FaultPlan) (slot k : ℕ) (fate : Fate) (incident : Incident) (hit : Bool) → IsGoodPlan plan
    → enters plan (suc slot) k ≡ false → incident_at plan (suc slot) ≡ Some incident → (incident.node == k) ≡ hit
    → IsTold plan slot k fate
    → IsTold plan (suc slot) k
    (turned (sender plan (suc slot) == k) (suc slot) (cond hit (Falling incident.change (suc slot)) fate))
told-hit plan slot k fate incident true good none found hit told =
    told-lost plan slot k (sender plan (suc slot) == k) incident good refl found (eqb-true _ _ hit)
told-hit plan slot k fate incident false good none found hit told =
    told-kept plan slot k (sender plan (suc slot) == k) fate good none refl told

told-next : (plan : FaultPlan) (slot k : ℕ) (fate : Fate) (found : Option Incident) → IsGoodPlan plan
    → enters plan (suc slot) k ≡ false → incident_at plan (suc slot) ≡ found → IsTold plan slot k fate
    → IsTold plan (suc slot) k (turned (sender plan (suc slot) == k) (suc slot) (struck (suc slot) k fate found))
told-next plan slot k fate None good none is told =
    told-kept plan slot k (sender plan (suc slot) == k) fate good none refl told
told-next plan slot k fate (Some incident) good none is told =
    told-hit plan slot k fate incident (incident.node == k) good none is refl told

-- of a node that listens again
armed-told : (plan : FaultPlan) (slot k : ℕ) → IsGoodPlan plan → is_armed_by plan slot k ≡ true
    → enters plan slot k ≡ false
    → IsListening plan slot k slot
armed-told plan slot k good is none =
    let found = armed-is plan slot k is in
    let r = found.return in
    let at : r.armed ≡ slot = found.armed in
    let after : r.armed ≤ r.entered = (good.returns found.return found.among).after in
    record {
      return = found.return;
      among = found.among;
      node = found.node;
      armed = found.armed;
      from = omega arith;
      waits = not-yet plan found.return slot k found.among found.node (omega (arith, at, after)) none;
    }

pub fate-told : (plan : FaultPlan) (slot k : ℕ) → IsGoodPlan plan → IsTold plan slot k (fate_of plan slot k)
fate-told plan zero k good =
    let own = sender plan 0 == k in
    subst (IsTold plan 0 k)
    (sym (next-same plan 0 k (fate_at_begin plan k) (armed-late plan k good) (enters-late plan k good)
    ∙ ap (λ found. turned own 0 (struck 0 k (fate_at_begin plan k) found)) (none-first plan good)))
    (told-begin plan k own (has_node plan.begin k))
fate-told plan (suc slot) k good =
    by (fate-told plan slot k good) (is_armed_by plan (suc slot) k) (enters plan (suc slot) k) refl refl
  where
    by : IsTold plan slot k (fate_of plan slot k) → (armed entered : Bool) → is_armed_by plan (suc slot) k ≡ armed
        → enters plan (suc slot) k ≡ entered → IsTold plan (suc slot) k (fate_of plan (suc slot) k)
    by told armed true arms enter =
        subst (IsTold plan (suc slot) k) (sym (next-entered plan (suc slot) k (fate_of plan slot k) enter)) tt
    by told true false arms none =
        subst (IsTold plan (suc slot) k)
        (sym (next-armed plan (suc slot) k (fate_of plan slot k) arms none (armed-quiet plan (suc slot) k good arms)))
        (armed-told plan (suc slot) k good arms none)
    by told false false arms none =
        subst (IsTold plan (suc slot) k) (sym (next-same plan (suc slot) k (fate_of plan slot k) arms none))
        (told-next plan slot k (fate_of plan slot k) (incident_at plan (suc slot)) good none refl told)

-- A lost node that may still stay after a slot was lost less than two rounds before the next.

pub record StaysSince (plan : FaultPlan) (slot k : ℕ) : Type 0 where
  pub change : Change
  pub since : ℕ
  pub loss : IsLossOf plan k change since
  pub from : since ≤ slot
  pub near : suc slot < since + 2 * plan.nodes

stays : (plan : FaultPlan) (slot k : ℕ) (fate : Fate) → IsTold plan slot k fate → may_stay plan.nodes slot fate ≡ true
    → StaysSince plan slot k
stays plan slot k Absent told may = absurd (both_ways _ refl may)
stays plan slot k Sound told may = absurd (both_ways _ refl may)
stays plan slot k (Listening since) told may = absurd (both_ways _ refl may)
stays plan slot k (Falling change since) told may = record {
  change = change;
  since = since;
  loss = told.loss;
  from = told.from;
  near = omega (arith, told.soon);
}
stays plan slot k (Fallen change since shown) told may = record {
  change = change;
  since = since;
  loss = told.loss;
  from = omega (arith, told.from);
  near = omega (arith, told.soon, ltb-true _ _ may);
}

-- two losses of one slot are one
same-loss : (plan : FaultPlan) (j k since : ℕ) (one other : Change) → IsLossOf plan j one since
    → IsLossOf plan k other since
    → j ≡ k
same-loss plan j k since one other first second =
    let same : first.incident ≡ second.incident = same_Some _ _ (sym first.found ∙ second.found) in
    sym first.node ∙ ap (λ (i : Incident). i.node) same ∙ second.node

pub one-stays : (plan : FaultPlan) (slot j k : ℕ) → IsGoodPlan plan
    → may_stay plan.nodes slot (fate_of plan slot j) ≡ true
    → may_stay plan.nodes slot (fate_of plan slot k) ≡ true → j ≡ k
one-stays plan slot j k good first second =
    let one = stays plan slot j (fate_of plan slot j) (fate-told plan slot j good) first in
    let two = stays plan slot k (fate_of plan slot k) (fate-told plan slot k good) second in
    elim (cases_eq one.since two.since) [
      | inl same ↦
          same-loss plan j k one.since one.change two.change one.loss
          (subst (IsLossOf plan k two.change) (sym same) two.loss)
      | inr other ↦ elim (cases_lt one.since two.since) [
        | inl before ↦
            let apart =
            good.apart one.since two.since one.loss.incident two.loss.incident one.loss.found two.loss.found before in
            absurd (omega (arith, apart, one.near, two.from))
        | inr after ↦
            let apart =
            good.apart two.since one.since two.loss.incident one.loss.incident two.loss.found one.loss.found
            (omega (arith, after, other)) in
            absurd (omega (arith, apart, two.near, one.from))
      ]
    ]

-- none that was lost before still stays when another is
pub none-stays : (plan : FaultPlan) (slot k : ℕ) (incident : Incident) → IsGoodPlan plan
    → incident_at plan (suc slot) ≡ Some incident → may_stay plan.nodes slot (fate_of plan slot k) ≡ false
none-stays plan slot k incident good found =
    false_from_ne_true _ (λ may.
    let one = stays plan slot k (fate_of plan slot k) (fate-told plan slot k good) may in
    let apart =
    good.apart one.since (suc slot) one.loss.incident incident one.loss.found found (omega (arith, one.from)) in
    omega (arith, apart, one.near))

-- Two rounds after its loss it does not stay.

over-by : (plan : FaultPlan) (slot k since : ℕ) (fate : Fate) → IsTold plan slot k fate → lost_since fate ≡ Some since
    → since + 2 * plan.nodes ≤ suc slot → may_stay plan.nodes slot fate ≡ false
over-by plan slot k since Absent told is over = refl
over-by plan slot k since Sound told is over = refl
over-by plan slot k since (Listening from) told is over = refl
over-by plan slot k since (Falling change at) told is over =
    let same : at ≡ since = same_Some _ _ is in
    absurd (omega (arith, told.soon))
over-by plan slot k since (Fallen change at shown) told is over =
    let same : at ≡ since = same_Some _ _ is in
    le-ltb _ _ (omega (arith, told.soon))

pub over : (plan : FaultPlan) (slot k since : ℕ) → IsGoodPlan plan → lost_since (fate_of plan slot k) ≡ Some since
    → since + 2 * plan.nodes ≤ suc slot → may_stay plan.nodes slot (fate_of plan slot k) ≡ false
over plan slot k since good is after =
    over-by plan slot k since (fate_of plan slot k) (fate-told plan slot k good) is after

-- A node that is armed was lost two rounds before, so that its first own slot since then has come.

pub record WasFallen (plan : FaultPlan) (slot k : ℕ) : Type 0 where
  pub change : Change
  pub since : ℕ
  pub shown : ℕ
  pub was : fate_of plan slot k ≡ Fallen change since shown
  pub early : since + 2 * plan.nodes ≤ suc slot

loss-early : (plan : FaultPlan) (slot k since : ℕ) (change : Change) → IsGoodPlan plan → IsLossOf plan k change since
    → since ≤ slot → is_armed_by plan (suc slot) k ≡ true → since + 2 * plan.nodes ≤ suc slot
loss-early plan slot k since change good loss from is =
    let found = armed-is plan (suc slot) k is in
    let of_r = good.returns found.return found.among in
    let at = found.armed in
    let after = of_r.after in
    elim (of_r.losses since loss.incident loss.found) [
      | inl early ↦ omega (arith, early, at)
      | inr late ↦ absurd (omega (arith, late, at, after, from))
    ]

pub armed-fallen : (plan : FaultPlan) (slot k : ℕ) → IsGoodPlan plan → is_armed_by plan (suc slot) k ≡ true
    → WasFallen plan slot k
armed-fallen plan slot k good is =
    by (fate_of plan slot k) refl (fate-told plan slot k good) (armed-lost plan slot k good is)
  where
    by : (fate : Fate) → fate_of plan slot k ≡ fate → IsTold plan slot k fate → is_lost fate ≡ true
        → WasFallen plan slot k
    by Absent was told lost = absurd (both_ways _ refl lost)
    by Sound was told lost = absurd (both_ways _ refl lost)
    by (Listening since) was told lost = absurd (both_ways _ refl lost)
    by (Falling change since) was told lost =
        let early = loss-early plan slot k since change good told.loss told.from is in
        absurd (omega (arith, early, told.soon))
    by (Fallen change since shown) was told lost =
        record {
          change = change;
          since = since;
          shown = shown;
          was = was;
          early = loss-early plan slot k since change good told.loss (omega (arith, told.from)) is;
        }
