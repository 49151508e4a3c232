-- What the kind of a slot of a good plan tells.
use Rattle.safety_laws.proofs.PlanWords.{◌≡◌, ◌≢◌, ℕ, suc, ◌+◌, ◌≤◌, Bool, true, false}
use Rattle.safety_laws.proofs.PlanWords.{cond, Option, Some, None, refl, ap}
use Rattle.safety_laws.proofs.PlanWords.{sym, subst, ◌∙◌, arith, ◌⊎◌, inl, inr, ◌==◌}
use Rattle.safety_laws.proofs.PlanWords.{nat_lt, eqb-true, eqb-false, eq-eqb}
use Rattle.safety_laws.proofs.PlanWords.{ne_eqb, both_ways, lt-ltb, le-ltb, false_from_ne_true}
use Rattle.safety_laws.proofs.PlanWords.{none-some, Change, Sending}
use Rattle.safety_laws.proofs.PlanWords.{Receiving, Jumping, Incident, FaultPlan, sender}
use Rattle.safety_laws.proofs.PlanWords.{incident_at, is_armed_by, enters}
use Rattle.safety_laws.proofs.PlanWords.{Fate, Absent, Sound, Falling, Fallen, Listening, struck, turned, fate_of}
use Rattle.safety_laws.proofs.PlanWords.{is_sound_fate, is_sound_after, is_shown_in}
use Rattle.safety_laws.proofs.PlanWords.{is_good_slot, is_first_slot, may_stay}
use Rattle.safety_laws.proofs.PlanWords.{lost_since, IsGoodPlan, IsTold}
use Rattle.safety_laws.specs.Fates.{shown_in}
use Rattle.safety_laws.specs.SlotKind.{SlotKind, Good, Idle, Lost, Shown, Last, kind_if_lost, kind_by_fate, slot_kind}
use Rattle.safety_laws.specs.SlotKind.{is_good_kind, is_first_kind, IsIdle, IsGoodAfter, IsLostAfter, IsShownAfter}
use Rattle.safety_laws.specs.SlotKind.{IsKindAfter}
use Rattle.safety_laws.proofs.FateSteps.{strikes, next-same, next-armed}
use Rattle.safety_laws.proofs.FateTells.{fate-told, loss-sending, none-stays, one-stays, over, armed-fallen}
use Rattle.safety_laws.proofs.Persists.{sound-on}
use Rattle.safety_laws.proofs.Returns.{entry-good, armed-quiet}
use Rattle.safety_laws.proofs.Tests.{never-found}
use Rattle.safety_laws.proofs.Turns.{turns_apart}

-- while a lost node may stay, no incident comes
pub quiet-while : (plan : FaultPlan) (slot k : ℕ) → IsGoodPlan plan
    → may_stay plan.nodes slot (fate_of plan slot k) ≡ true
    → incident_at plan (suc slot) ≡ None
quiet-while plan slot k good may =
    never-found (incident_at plan (suc slot)) (λ incident found.
    both_ways _ (none-stays plan slot k incident good found) may)

-- The incident of another node than the sender.

other-struck : (plan : FaultPlan) (slot k : ℕ) (incident : Incident) → strikes (incident_at plan slot) k ≡ false
    → incident_at plan slot ≡ Some incident → incident.node ≢ k
other-struck plan slot k incident missed found same =
    both_ways _ missed (ap (λ found. strikes found k) found ∙ eq-eqb _ _ same)

jumping-left : (change : Change) → change ≢ Sending → change ≢ Receiving → change ≡ Jumping
jumping-left Sending silent deaf = absurd (silent refl)
jumping-left Receiving silent deaf = absurd (deaf refl)
jumping-left Jumping silent deaf = refl

idle-told : (plan : FaultPlan) (slot : ℕ) → IsGoodPlan plan
    → strikes (incident_at plan (suc slot)) (sender plan (suc slot)) ≡ false
    → is_sound_after plan slot (sender plan (suc slot)) ≡ false
    → may_stay plan.nodes slot (fate_of plan slot (sender plan (suc slot))) ≡ false → IsIdle plan slot
idle-told plan slot good missed was left =
    let e = sender plan (suc slot) in
    record {
      was = was;
      left = left;
      jumps = λ incident found.
          let loss = good.losses slot incident found in
          let other = other-struck plan (suc slot) e incident missed found in (
            jumping-left incident.change (λ is. other (sym (loss.sending is)))
                (λ is. both_ways _ was (loss.receiving is).1),
            other,
          );
    }

good-told : (plan : FaultPlan) (slot : ℕ) → IsGoodPlan plan
    → strikes (incident_at plan (suc slot)) (sender plan (suc slot)) ≡ false
    → is_sound_after plan slot (sender plan (suc slot)) ≡ true → IsGoodAfter plan slot
good-told plan slot good missed was =
    let e = sender plan (suc slot) in
    record {
      was = was;
      is = sound-on plan slot e good was missed;
      others = λ incident found.
          let other = other-struck plan (suc slot) e incident missed found in
          (λ is. other (sym ((good.losses slot incident found).sending is)), other);
    }

-- Kinds of a fallen node's slots.

kind-lost : (nodes slot shown : ℕ) (change : Change) → kind_if_lost nodes slot change slot shown ≡ Lost change
kind-lost nodes slot shown change = let same : (slot == slot) ≡ true = eq-eqb _ _ refl in rw same

kind-shown : (nodes slot since : ℕ) (change : Change) → since ≢ slot
    → kind_if_lost nodes slot change since slot ≡ Shown change since
kind-shown nodes slot since change other =
    let off : (since == slot) ≡ false = ne_eqb _ _ other in
    let same : (slot == slot) ≡ true = eq-eqb _ _ refl in
    rw (off, same)

kind-later : (nodes slot since shown : ℕ) (change : Change) (last : Bool) → since ≢ slot → shown ≢ slot
    → (shown + nodes == slot) ≡ last
    → kind_if_lost nodes slot change since shown ≡ cond last (Last change since shown) Idle
kind-later nodes slot since shown change last other apart is =
    let off : (since == slot) ≡ false = ne_eqb _ _ other in
    let past : (shown == slot) ≡ false = ne_eqb _ _ apart in
    rw (off, past, is)

-- The slot of a node that is not lost in it.

fallen-told : (plan : FaultPlan) (slot since shown : ℕ) (change : Change) (last : Bool) → IsGoodPlan plan
    → strikes (incident_at plan (suc slot)) (sender plan (suc slot)) ≡ false
    → fate_of plan slot (sender plan (suc slot)) ≡ Fallen change since shown → shown + plan.nodes ≤ suc slot
    → (shown + plan.nodes == suc slot) ≡ last → IsKindAfter plan slot (cond last (Last change since shown) Idle)
fallen-told plan slot since shown change true good missed is past last =
    let e = sender plan (suc slot) in
    let round : shown + plan.nodes ≡ suc slot = eqb-true _ _ last in
    record {
      was = is;
      round = round;
      quiet = quiet-while plan slot e good
          (ap (may_stay plan.nodes slot) is ∙ lt-ltb _ _ (omega arith));
    }
fallen-told plan slot since shown change false good missed is past last =
    let other : shown + plan.nodes ≢ suc slot = eqb-false _ _ last in
    idle-told plan slot good missed (ap is_sound_fate is) (ap (may_stay plan.nodes slot) is ∙ le-ltb _ _ (omega arith))

missed-told : (plan : FaultPlan) (slot : ℕ) (fate : Fate) → IsGoodPlan plan
    → strikes (incident_at plan (suc slot)) (sender plan (suc slot)) ≡ false
    → fate_of plan slot (sender plan (suc slot)) ≡ fate → IsTold plan slot (sender plan (suc slot)) fate
    → IsKindAfter plan slot (kind_by_fate plan.nodes (suc slot) (shown_in (suc slot) fate))
missed-told plan slot Absent good missed is told =
    idle-told plan slot good missed (ap is_sound_fate is) (ap (may_stay plan.nodes slot) is)
missed-told plan slot Sound good missed is told = good-told plan slot good missed (ap is_sound_fate is)
missed-told plan slot (Listening since) good missed is told =
    idle-told plan slot good missed (ap is_sound_fate is) (ap (may_stay plan.nodes slot) is)
missed-told plan slot (Falling change since) good missed is told =
    let e = sender plan (suc slot) in
    let from : since ≤ slot = told.from in
    let shown : IsShownAfter plan slot change since =
    record {
      was = is;
      quiet = quiet-while plan slot e good (ap (may_stay plan.nodes slot) is);
      not_silent = λ silent.
          told.unshown since (omega arith) told.from (loss-sending plan e since change good told.loss silent);
    } in
    subst (IsKindAfter plan slot) (sym (kind-shown plan.nodes (suc slot) since change (λ same. omega arith))) shown
missed-told plan slot (Fallen change since shown) good missed is told =
    let from : (since ≤ shown) × (shown ≤ slot) = told.from in
    let past = turns_apart plan shown (suc slot) (omega (arith, good.count)) (omega (arith, from.1)) told.own in
    let last = shown + plan.nodes == suc slot in
    subst (IsKindAfter plan slot)
    (sym (kind-later plan.nodes (suc slot) since shown change last (λ same. omega (arith, from.0, from.1))
    (λ same. omega (arith, from.1)) refl)) (fallen-told plan slot since shown change last good missed is past refl)

-- Each slot.

struck-told : (plan : FaultPlan) (slot : ℕ) (fate : Fate) (found : Option Incident) (hit : Bool) → IsGoodPlan plan
    → incident_at plan (suc slot) ≡ found → strikes found (sender plan (suc slot)) ≡ hit
    → fate_of plan slot (sender plan (suc slot)) ≡ fate → IsTold plan slot (sender plan (suc slot)) fate
    → IsKindAfter plan slot
    (kind_by_fate plan.nodes (suc slot)
    (shown_in (suc slot) (struck (suc slot) (sender plan (suc slot)) fate found)))
struck-told plan slot fate None hit good at strike is told =
    missed-told plan slot fate good (ap (λ found. strikes found (sender plan (suc slot))) at) is told
struck-told plan slot fate (Some incident) true good at strike is told =
    let e = sender plan (suc slot) in
    let loss = good.losses slot incident at in
    let node : incident.node ≡ e = eqb-true _ _ strike in
    let lost : IsLostAfter plan slot incident.change =
    record {
      was = ap (is_sound_after plan slot) (sym node) ∙ loss.was;
      incident = incident;
      found = at;
      node = node;
      how = refl;
      not_deaf = λ deaf. (loss.receiving deaf).0 (sym node);
    } in
    rw strike (subst (IsKindAfter plan slot) (sym (kind-lost plan.nodes (suc slot) (suc slot) incident.change)) lost)
struck-told plan slot fate (Some incident) false good at strike is told =
    rw strike
    (missed-told plan slot fate good (ap (λ found. strikes found (sender plan (suc slot))) at ∙ strike) is told)

-- the slot of a node that is armed in it
armed-told : (plan : FaultPlan) (slot : ℕ) → IsGoodPlan plan → is_armed_by plan (suc slot)
    (sender plan (suc slot)) ≡ true
    → IsIdle plan slot
armed-told plan slot good arms =
    let e = sender plan (suc slot) in
    let fallen = armed-fallen plan slot e good arms in
    record {
      was = ap is_sound_fate fallen.was;
      left = over plan slot e fallen.since good (ap lost_since fallen.was) fallen.early;
      jumps = λ incident found.
          absurd (none-some _ (sym (armed-quiet plan (suc slot) e good arms) ∙ found));
    }

-- no node enters in its own slot
pub sender-stays : (plan : FaultPlan) (slot : ℕ) → IsGoodPlan plan → enters plan slot (sender plan slot) ≡ false
sender-stays plan slot good = false_from_ne_true _ (λ is. (entry-good plan slot (sender plan slot) good is).1 refl)

pub kind-told : (plan : FaultPlan) (slot : ℕ) → IsGoodPlan plan → IsKindAfter plan slot (slot_kind plan (suc slot))
kind-told plan slot good = by (is_armed_by plan (suc slot) (sender plan (suc slot))) refl
  where
    e : ℕ
    e = sender plan (suc slot)

    none : enters plan (suc slot) (sender plan (suc slot)) ≡ false
    none = sender-stays plan (suc slot) good

    by : (armed : Bool) → is_armed_by plan (suc slot) (sender plan (suc slot)) ≡ armed
        → IsKindAfter plan slot (slot_kind plan (suc slot))
    by true arms =
        subst (λ fate. IsKindAfter plan slot (kind_by_fate plan.nodes (suc slot) fate))
        (sym (next-armed plan (suc slot) e (fate_of plan slot e) arms none (armed-quiet plan (suc slot) e good arms)))
        (armed-told plan slot good arms)
    by false arms =
        let found = incident_at plan (suc slot) in
        let fate = fate_of plan slot e in
        subst (λ fate. IsKindAfter plan slot (kind_by_fate plan.nodes (suc slot) fate))
        (sym (next-same plan (suc slot) e fate arms none
        ∙ ap (λ own. turned own (suc slot) (struck (suc slot) e fate found)) (eq-eqb e e refl)))
        (struck-told plan slot fate found (strikes found e) good refl refl refl (fate-told plan slot e good))

-- What a slot's kind is for members and counts.

fallen-bad : (first second third : Bool) (change : Change) (since shown : ℕ)
    → false
    ≡ is_good_kind
    (cond first (Lost change) (cond second (Shown change since) (cond third (Last change since shown) Idle)))
fallen-bad true second third change since shown = refl
fallen-bad false true third change since shown = refl
fallen-bad false false true change since shown = refl
fallen-bad false false false change since shown = refl

good-by : (nodes slot : ℕ) (fate : Fate) → is_sound_fate fate ≡ is_good_kind (kind_by_fate nodes slot fate)
good-by nodes slot Absent = refl
good-by nodes slot Sound = refl
good-by nodes slot (Falling change since) = refl
good-by nodes slot (Listening since) = refl
good-by nodes slot (Fallen change since shown) =
    fallen-bad (since == slot) (shown == slot) (shown + nodes == slot) change since shown

pub good-kind : (plan : FaultPlan) (slot : ℕ) → is_good_slot plan slot ≡ is_good_kind (slot_kind plan slot)
good-kind plan slot = good-by plan.nodes slot (fate_of plan slot (sender plan slot))

fallen-first : (first second third : Bool) (change : Change) (since shown : ℕ) → (first ≡ true → second ≡ true)
    → second
    ≡ is_first_kind
    (cond first (Lost change) (cond second (Shown change since) (cond third (Last change since shown) Idle)))
fallen-first true second third change since shown both = both refl
fallen-first false true third change since shown both = refl
fallen-first false false true change since shown both = refl
fallen-first false false false change since shown both = refl

first-by : (plan : FaultPlan) (slot k : ℕ) (fate : Fate) → IsTold plan slot k fate
    → is_shown_in slot fate ≡ is_first_kind (kind_by_fate plan.nodes slot fate)
first-by plan slot k Absent told = refl
first-by plan slot k Sound told = refl
first-by plan slot k (Falling change since) told = refl
first-by plan slot k (Listening since) told = refl
first-by plan slot k (Fallen change since shown) told =
    fallen-first (since == slot) (shown == slot) (shown + plan.nodes == slot) change since shown (λ now.
    let same : since ≡ slot = eqb-true _ _ now in
    eq-eqb _ _ (omega (arith, told.from.0, told.from.1)))

pub first-kind : (plan : FaultPlan) (slot : ℕ) → IsGoodPlan plan
    → is_first_slot plan slot ≡ is_first_kind (slot_kind plan slot)
first-kind plan slot good =
    let e = sender plan slot in
    first-by plan slot e (fate_of plan slot e) (fate-told plan slot e good)

-- While a lost node may stay, each slot that is not its own is good or idle.

only-good : (plan : FaultPlan) (slot k : ℕ) (kind : SlotKind) → IsGoodPlan plan
    → may_stay plan.nodes slot (fate_of plan slot k) ≡ true → sender plan (suc slot) ≢ k → IsKindAfter plan slot kind
    → (kind ≡ Good) ⊎ (kind ≡ Idle)
only-good plan slot k Idle good may other told = inr refl
only-good plan slot k Good good may other told = inl refl
only-good plan slot k (Lost change) good may other told =
    absurd (none-some _ (sym (quiet-while plan slot k good may) ∙ told.found))
only-good plan slot k (Shown change since) good may other told =
    let e = sender plan (suc slot) in
    absurd (other (one-stays plan slot e k good (ap (may_stay plan.nodes slot) told.was) may))
only-good plan slot k (Last change since shown) good may other told =
    let e = sender plan (suc slot) in
    let stays : nat_lt slot (shown + plan.nodes) ≡ true = lt-ltb _ _ (omega (arith, told.round)) in
    absurd (other (one-stays plan slot e k good (ap (may_stay plan.nodes slot) told.was ∙ stays) may))

pub others-good : (plan : FaultPlan) (slot k : ℕ) → IsGoodPlan plan
    → may_stay plan.nodes slot (fate_of plan slot k) ≡ true
    → sender plan (suc slot) ≢ k → (slot_kind plan (suc slot) ≡ Good) ⊎ (slot_kind plan (suc slot) ≡ Idle)
others-good plan slot k good may other =
    only-good plan slot k (slot_kind plan (suc slot)) good may other (kind-told plan slot good)
