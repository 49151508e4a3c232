-- A node that listens in a turn: it does not start, and what a slot in which it does not join makes of it.
use Rattle.safety_laws.proofs.Words.{◌≡◌, ℕ, suc, ◌+◌, ◌-◌, ◌*◌, ◌<◌, ◌≤◌, Bool, true, false, cond, length, ap, sym}
use Rattle.safety_laws.proofs.Words.{◌∙◌, inl, inr, arith, ◌≢◌, zero, Some, None, refl, subst, ◌⊎◌, cases_lt, both_ways}
use Rattle.safety_laws.proofs.Words.{and_parts, FaultPlan, Change, Return, sender, incident_at, is_armed_by, enters}
use Rattle.safety_laws.proofs.Words.{is_good_slot, Fate, Absent, Sound, Falling, Fallen, Listening, fate_of, is_lost}
use Rattle.safety_laws.proofs.Words.{lost_since, may_stay, tally, is_measured, ListensInSlot, NodeSlot, next_past}
use Rattle.safety_laws.proofs.Words.{HasWaited, IsListeningAt, has_node, IsGoodPlan, IsLossOf, IsTold, four-measured}
use Rattle.safety_laws.proofs.Words.{next-entered, fate-told, enters-by}
use Rattle.ttp_world.specs.declared.node.Phase.TheVariants as phase
use Rattle.safety_laws.proofs.Listening.{listens-armed, listens-early}
use Rattle.std.specs.List.{Contains}
use Rattle.safety_laws.specs.Told.{IsListening}
use Rattle.safety_laws.proofs.FateTells.{over}
use Rattle.safety_laws.proofs.Returns.{armed-is, quiet-within, listens-until}

-- it listens in the turn after some, and was armed in it or before: how many silent slots it counted by then
pub record ListensSince (plan : FaultPlan) (turn since : ℕ) (x : NodeSlot) : Type 0 where
  pub listens : ListensInSlot x
  pub limit : x.past.limit ≡ 2 * length x.list.slots + x.node
  pub silent : x.past.silent_slots ≤ suc turn - since
  pub broken : (good : ℕ) → since ≤ good → good ≤ turn → is_good_slot plan good ≡ true
      → x.past.silent_slots + good ≤ turn

-- One that listened before: a good slot came less than a round ago, so it has not waited for its limit.
pub listens-before : (plan : FaultPlan) (turn since : ℕ) (x : NodeSlot) → plan.nodes ≡ length x.list.slots
    → 0 < plan.nodes
    → (slot : ℕ) × ((slot ≤ turn) × (turn < slot + plan.nodes) × (is_good_slot plan slot ≡ true))
    → IsListeningAt x.list plan turn x.node since x.past → ListensSince plan turn since x
listens-before plan turn since x nodes some lately at = record {
  listens = listens-early x at.phase early;
  limit = at.limit;
  silent = at.silent;
  broken = at.broken;
}
  where
    few : x.past.silent_slots ≤ plan.nodes
    few = elim (cases_lt lately.0 since) [
      | inl before ↦ omega (arith, before, at.silent, lately.1.1)
      | inr from ↦
          let broken = at.broken lately.0 from lately.1.0 lately.1.2 in
          omega (arith, broken, lately.1.1)
    ]

    early : x.past.silent_slots < x.past.limit
    early = let limit = at.limit in omega (arith, few, limit, nodes, some)

-- One that is armed in the turn has counted none.
pub listens-first : (plan : FaultPlan) (turn : ℕ) (x : NodeSlot) → x.past.phase ≡ phase.Left → x.armed ≡ true
    → x.past.silent_slots ≡ 0 → x.past.limit ≡ 2 * length x.list.slots + x.node → ListensSince plan turn (suc turn) x
listens-first plan turn x left armed none limit = record {
  listens = listens-armed x left armed;
  limit = limit;
  silent = omega (arith, none);
  broken = λ good from to is. absurd (omega (arith, from, to));
}

-- A slot in which it waits counts as silent only where it is not good.
pub waits-on : (plan : FaultPlan) (turn since : ℕ) (x : NodeSlot) → since ≤ suc turn → ListensSince plan turn since x
    → HasWaited x → (is_good_slot plan (suc turn) ≡ true → x.around.is_silent ≡ false)
    → IsListeningAt x.list plan (suc turn) x.node since (next_past x)
waits-on plan turn since x from is waited heard = record {
  phase = waited.phase;
  limit = waited.limit ∙ is.limit;
  silent = let few = one-more x.around.is_silent in
      omega (arith, few, is.silent, waited.silent_slots, from);
  broken = λ good since_is to good_is. elim (cases_lt good (suc turn)) [
    | inl before ↦
        let few = one-more x.around.is_silent in
        let broken = is.broken good since_is (omega (arith, before)) good_is in
        omega (arith, few, broken, waited.silent_slots)
    | inr now ↦
        let same : good ≡ suc turn = omega (arith, now, to) in
        let none : (next_past x).silent_slots ≡ 0 =
        waited.silent_slots
        ∙ ap (λ b. cond b (1 + x.past.silent_slots) 0) (heard (ap (is_good_slot plan) (sym same) ∙ good_is)) in
        omega (arith, none, to)
  ];
}
  where
    one-more : (silent : Bool) → cond silent (1 + x.past.silent_slots) 0 ≤ 1 + x.past.silent_slots
    one-more true = omega arith
    one-more false = omega arith

-- A node that listens in a turn, by a plan: what comes in that slot, and what becomes of the node.

-- the return of a node that has not entered before the slot after a turn, and is armed in it or was before
pub record IsAwaited (plan : FaultPlan) (turn k since : ℕ) : Type 0 where
  pub return : Return
  pub among : Contains plan.returns return
  pub node : return.node ≡ k
  pub armed : return.armed ≡ since
  pub from : since ≤ suc turn
  pub waits : suc turn ≤ return.entered

pub awaited-armed : (plan : FaultPlan) (turn k : ℕ) → IsGoodPlan plan → is_armed_by plan (suc turn) k ≡ true
    → IsAwaited plan turn k (suc turn)
awaited-armed plan turn k good is =
    let found = armed-is plan (suc turn) k is in
    let after = (good.returns found.return found.among).after in
    record {
      return = found.return;
      among = found.among;
      node = found.node;
      armed = found.armed;
      from = omega arith;
      waits = omega (arith, after, found.armed);
    }

pub awaited-listening : (plan : FaultPlan) (turn k since : ℕ) → IsGoodPlan plan → suc turn < plan.slots
    → fate_of plan turn k ≡ Listening since → IsAwaited plan turn k since
awaited-listening plan turn k since good within is =
    let told : IsListening plan turn k since = subst (IsTold plan turn k) is (fate-told plan turn k good) in
    let from = told.from in
    let waits = told.waits (omega (arith, within)) in
    record {
      return = told.return;
      among = told.among;
      node = told.node;
      armed = told.armed;
      from = omega (arith, from);
      waits = omega (arith, waits);
    }

-- a slot that passes a test, where some do
some_of : (test : ℕ → Bool) (from many : ℕ) → 1 ≤ tally test from many
    → (slot : ℕ) × ((from ≤ slot) × (slot < from + many) × (test slot ≡ true))
some_of test from zero some = absurd (omega (arith, some))
some_of test from (suc many) some = by (test (from + many)) refl (some_of test from many)
  where
    by : (passes : Bool) → test (from + many) ≡ passes → (1 ≤ tally test from many
        → (slot : ℕ) × ((from ≤ slot) × (slot < from + many) × (test slot ≡ true)))
        → (slot : ℕ) × ((from ≤ slot) × (slot < from + suc many) × (test slot ≡ true))
    by true passes before = (from + many, (omega arith, omega arith, passes))
    by false fails before =
        let none : cond {A = ℕ} (test (from + many)) 1 0 ≡ 0 = ap (λ b. cond {A = ℕ} b 1 0) fails in
        let found = before (omega (arith, some, none)) in
        (found.0, (found.1.0, omega (arith, found.1.1), found.1.2))

module _ (plan : FaultPlan) (turn k since : ℕ) (good : IsGoodPlan plan) (is : IsAwaited plan turn k since) where
  -- Nobody is lost then, and nobody that was lost may still stay.

  pub quiet-awaited : incident_at plan (suc turn) ≡ None
  quiet-awaited = quiet-within plan is.return (suc turn) good is.among (omega (arith, is.from, is.armed)) is.waits

  gone-lost : (j at : ℕ) → lost_since (fate_of plan turn j) ≡ Some at → at ≤ turn
      → ((change : Change) × IsLossOf plan j change at) → may_stay plan.nodes turn (fate_of plan turn j) ≡ false
  gone-lost j at lost before loss =
      elim ((good.returns is.return is.among).losses at loss.1.incident loss.1.found) [
        | inl early ↦ over plan turn j at good lost (omega (arith, early, is.from, is.armed))
        | inr late ↦ let waits = is.waits in absurd (omega (arith, late, waits, before, good.count))
      ]

  pub gone-awaited : (j : ℕ) → may_stay plan.nodes turn (fate_of plan turn j) ≡ false
  gone-awaited j = by (fate_of plan turn j) refl (fate-told plan turn j good)
    where
      by : (fate : Fate) → fate_of plan turn j ≡ fate → IsTold plan turn j fate
          → may_stay plan.nodes turn (fate_of plan turn j) ≡ false
      by Absent same told = ap (may_stay plan.nodes turn) same
      by Sound same told = ap (may_stay plan.nodes turn) same
      by (Listening s) same told = ap (may_stay plan.nodes turn) same
      by (Falling change at) same told = gone-lost j at (ap lost_since same) told.from (change, told.loss)
      by (Fallen change at shown) same told =
          gone-lost j at (ap lost_since same) (omega (arith, told.from.0, told.from.1)) (change, told.loss)

  -- It goes on to listen, unless it enters.

  pub listens-on : suc turn < plan.slots → enters plan (suc turn) k ≡ false
      → (suc turn < is.return.entered) × (fate_of plan (suc turn) k ≡ Listening since)
  listens-on within unentered =
      let later : suc turn ≢ is.return.entered = λ same. both_ways (enters plan (suc turn) k) unentered
      ((λ i. enters plan (same i) (sym is.node i))
      ∙ enters-by plan is.return is.among (subst (λ slot. slot < plan.slots) same within)) in
      let before : suc turn < is.return.entered = omega (arith, is.waits, later) in (
        before,
        ap (fate_of plan (suc turn)) (sym is.node)
            ∙ listens-until plan is.return (suc turn) good is.among (omega (arith, is.from, is.armed)) before
            ∙ ap (λ slot. Listening slot) is.armed,
      )

  pub fate-awaited : suc turn < plan.slots
      → (fate_of plan (suc turn) k ≡ Sound) ⊎ (fate_of plan (suc turn) k ≡ Listening since)
  fate-awaited within = by (enters plan (suc turn) k) refl
    where
      by : (entered : Bool) → enters plan (suc turn) k ≡ entered
          → (fate_of plan (suc turn) k ≡ Sound) ⊎ (fate_of plan (suc turn) k ≡ Listening since)
      by true entered = inl (next-entered plan (suc turn) k (fate_of plan turn k) entered)
      by false unentered = inr (listens-on within unentered).1

  -- A good slot came less than a round ago.

  late-armed : 2 * plan.nodes < since
  late-armed =
      let was = (good.returns is.return is.among).was in
      by (fate_of plan was.0 is.return.node) refl was.1.1 (fate-told plan was.0 is.return.node good)
      (omega (arith, was.1.0, is.armed))
    where
      by : {slot : ℕ} (fate : Fate) → fate_of plan slot is.return.node ≡ fate
          → is_lost (fate_of plan slot is.return.node) ≡ true
          → IsTold plan slot is.return.node fate → since ≡ suc slot → 2 * plan.nodes < since
      by Absent same lost told at = let both = ap is_lost (sym same) ∙ lost in cc
      by Sound same lost told at = let both = ap is_lost (sym same) ∙ lost in cc
      by (Listening s) same lost told at = let both = ap is_lost (sym same) ∙ lost in cc
      by (Falling change s) same lost told at = omega (arith, told.loss.late, told.from, at)
      by (Fallen change s shown) same lost told at = omega (arith, told.loss.late, told.from.0, told.from.1, at)

  pub good-lately : turn < plan.slots
      → (slot : ℕ) × ((slot ≤ turn) × (turn < slot + plan.nodes) × (is_good_slot plan slot ≡ true))
  good-lately within =
      let late = late-armed in
      let round : (suc turn - plan.nodes) + plan.nodes ≡ suc turn = omega (arith, late, is.from) in
      let four = four-measured plan turn (suc turn - plan.nodes) good within round in
      let found = some_of (is_measured plan) (suc turn - plan.nodes) plan.nodes (omega (arith, four)) in
      let to = found.1.1 in (
        found.0,
        (
          omega (arith, to, round),
          omega (arith, found.1.0, round),
          (and_parts (is_good_slot plan found.0) (has_node plan.measured (sender plan found.0)) found.1.2).0,
        ),
      )
