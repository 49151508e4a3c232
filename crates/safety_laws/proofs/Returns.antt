-- The returns of a good plan: no loss comes near one, and a node listens from its arm slot until it enters.
use Rattle.safety_laws.proofs.PlanWords.{◌≡◌, ◌≢◌, ℕ, zero, suc, ◌+◌, ◌*◌, ◌<◌, ◌≤◌, Bool, true, false, ◌&&◌, List, []}
use Rattle.safety_laws.proofs.PlanWords.{Option, cond, Some, None, ◌⊎◌, refl, ap}
use Rattle.safety_laws.proofs.PlanWords.{sym, ◌∙◌, inl, inr, arith, length, ◌==◌}
use Rattle.safety_laws.proofs.PlanWords.{nat_lt, Contains, list_any, and_parts, and_from}
use Rattle.safety_laws.proofs.PlanWords.{eqb-true, eq-eqb, ltb-true, lt-ltb}
use Rattle.safety_laws.proofs.PlanWords.{false_from_ne_true, both_ways, eq-or-lt_of_le, has_node, Incident, Return}
use Rattle.safety_laws.proofs.PlanWords.{FaultPlan, sender, incident_at, is_armed_by}
use Rattle.safety_laws.proofs.PlanWords.{enters, Fate, Absent, Sound, Falling}
use Rattle.safety_laws.proofs.PlanWords.{Listening, fate_at_begin, struck, next_fate, fate_of, is_good_slot, is_lost}
use Rattle.safety_laws.proofs.PlanWords.{IsGoodPlan}
use Rattle.std.proofs.lemmas.List.Folds.{Any-from_list_any, list_any_at}
use Rattle.safety_laws.specs.Plan.{is_armed_there, enters_there}
use Rattle.safety_laws.proofs.FateSteps.{turned-same, next-same, next-armed, next-listening}
use Rattle.safety_laws.proofs.Tests.{never-found}

-- What passes a test of a list is one of it.

pub any-of : {X : Type 0} (test : X → Bool) (xs : List X) → list_any test xs ≡ true
    → (x : X) × (Contains xs x × (test x ≡ true))
any-of test xs has =
    let found = Any-from_list_any test xs has in
    (found.1, ((found.0, found.2, found.3), found.4))

pub of-any : {X : Type 0} (test : X → Bool) (xs : List X) (x : X) → Contains xs x → test x ≡ true
    → list_any test xs ≡ true
of-any test xs x among passes = list_any_at test xs among.0 x among.1 (ap test among.2 ∙ passes)

-- A node is armed in a slot, or enters in it.

pub record IsArmed (plan : FaultPlan) (slot k : ℕ) : Type 0 where
  pub return : Return
  pub among : Contains plan.returns return
  pub armed : return.armed ≡ slot
  pub node : return.node ≡ k

pub record IsEntry (plan : FaultPlan) (slot k : ℕ) : Type 0 where
  pub return : Return
  pub among : Contains plan.returns return
  pub entered : return.entered ≡ slot
  pub node : return.node ≡ k
  pub within : slot < plan.slots

pub armed-is : (plan : FaultPlan) (slot k : ℕ) → is_armed_by plan slot k ≡ true → IsArmed plan slot k
armed-is plan slot k is =
    let found = any-of (is_armed_there slot k) plan.returns is in
    let r = found.0 in
    let parts = and_parts _ _ found.1.1 in
    record {
      return = found.0;
      among = found.1.0;
      armed = eqb-true _ _ parts.0;
      node = eqb-true _ _ parts.1;
    }

pub entry-is : (plan : FaultPlan) (slot k : ℕ) → enters plan slot k ≡ true → IsEntry plan slot k
entry-is plan slot k is =
    let whole = and_parts _ _ is in
    let found = any-of (enters_there slot k) plan.returns whole.0 in
    let r = found.0 in
    let parts = and_parts _ _ found.1.1 in
    record {
      return = found.0;
      among = found.1.0;
      entered = eqb-true _ _ parts.0;
      node = eqb-true _ _ parts.1;
      within = ltb-true _ _ whole.1;
    }

pub enters-by : (plan : FaultPlan) (r : Return) → Contains plan.returns r → r.entered < plan.slots
    → enters plan r.entered r.node ≡ true
enters-by plan r among within =
    and_from _ _ (of-any (enters_there r.entered r.node) plan.returns r among
    (and_from _ _ (eq-eqb r.entered r.entered refl) (eq-eqb r.node r.node refl))) (lt-ltb _ _ within)

pub armed-by : (plan : FaultPlan) (r : Return) → Contains plan.returns r → is_armed_by plan r.armed r.node ≡ true
armed-by plan r among =
    of-any (is_armed_there r.armed r.node) plan.returns r among
    (and_from _ _ (eq-eqb r.armed r.armed refl) (eq-eqb r.node r.node refl))

-- Where nothing returns, nothing is armed and nothing enters.

pub none-armed : (plan : FaultPlan) (slot k : ℕ) → plan.returns ≡ [] → is_armed_by plan slot k ≡ false
none-armed plan slot k none = ap (list_any (is_armed_there slot k)) none

pub none-enters : (plan : FaultPlan) (slot k : ℕ) → plan.returns ≡ [] → enters plan slot k ≡ false
none-enters plan slot k none = ap (λ rs. list_any (enters_there slot k) rs && nat_lt slot plan.slots) none

pub none-among : (plan : FaultPlan) (r : Return) → plan.returns ≡ [] → Contains plan.returns r → ⊥
none-among plan r none among =
    let empty : length plan.returns ≡ 0 = ap length none in
    omega (arith, among.1, empty)

-- and nobody listens
abbrev is_listening : Fate → Bool
is_listening (Listening since) = true
is_listening _ = false

struck-listens : (slot k : ℕ) (fate : Fate) (found : Option Incident) → is_listening fate ≡ false
    → is_listening (struck slot k fate found) ≡ false
struck-listens slot k fate None deaf = deaf
struck-listens slot k fate (Some incident) deaf = by (incident.node == k)
  where
    by : (hit : Bool) → is_listening (cond hit (Falling incident.change slot) fate) ≡ false
    by true = refl
    by false = deaf

listens-next : (plan : FaultPlan) (slot k : ℕ) (fate : Fate) → plan.returns ≡ [] → is_listening fate ≡ false
    → is_listening (next_fate plan slot k fate) ≡ false
listens-next plan slot k fate none deaf =
    ap is_listening (next-same plan slot k fate (none-armed plan slot k none) (none-enters plan slot k none))
    ∙ turned-same is_listening (sender plan slot == k) slot (struck slot k fate (incident_at plan slot))
    (λ change since shown. refl) ∙ struck-listens slot k fate (incident_at plan slot) deaf

begin-deaf : (b : Bool) → is_listening (cond b Sound Absent) ≡ false
begin-deaf true = refl
begin-deaf false = refl

deaf-always : (plan : FaultPlan) (slot k : ℕ) → plan.returns ≡ [] → is_listening (fate_of plan slot k) ≡ false
deaf-always plan zero k none = listens-next plan 0 k (fate_at_begin plan k) none (begin-deaf (has_node plan.begin k))
deaf-always plan (suc slot) k none =
    listens-next plan (suc slot) k (fate_of plan slot k) none (deaf-always plan slot k none)

pub never-listens : (plan : FaultPlan) (slot k since : ℕ) → plan.returns ≡ [] → fate_of plan slot k ≡ Listening since
    → ⊥
never-listens plan slot k since none is = both_ways _ (deaf-always plan slot k none) (ap is_listening is)

-- Of a good plan.

-- What comes by another return comes two rounds before this one's arm slot, or two rounds after its entry.
pub data Beside (plan : FaultPlan) (r : Return) (slot at : ℕ) : Type 0 where
  Itself : (is : slot ≡ at) → Beside plan r slot at
  Before : (early : slot + 2 * plan.nodes ≤ r.armed) → Beside plan r slot at
  After : (late : r.entered + 2 * plan.nodes ≤ slot) → Beside plan r slot at

pub armed-beside : (plan : FaultPlan) (r : Return) (slot k : ℕ) → IsGoodPlan plan → Contains plan.returns r
    → is_armed_by plan slot k ≡ true → Beside plan r slot r.armed
armed-beside plan r slot k good among is =
    let found = armed-is plan slot k is in
    let q = found.return in
    let of_q = good.returns q found.among in
    let at = found.armed in
    elim ((good.returns r among).others q found.among) [
      | inl same ↦ Itself (sym at ∙ ap (λ (x : Return). x.armed) same)
      | inr (inl early) ↦ let after = of_q.after in Before (omega (arith, early, after, at))
      | inr (inr late) ↦ After (omega (arith, late, at))
    ]

pub entry-beside : (plan : FaultPlan) (r : Return) (slot k : ℕ) → IsGoodPlan plan → Contains plan.returns r
    → enters plan slot k ≡ true → Beside plan r slot r.entered
entry-beside plan r slot k good among is =
    let found = entry-is plan slot k is in
    let q = found.return in
    let of_q = good.returns q found.among in
    let at = found.entered in
    elim ((good.returns r among).others q found.among) [
      | inl same ↦ Itself (sym at ∙ ap (λ (x : Return). x.entered) same)
      | inr (inl early) ↦ Before (omega (arith, early, at))
      | inr (inr late) ↦ let after = of_q.after in After (omega (arith, late, after, at))
    ]

-- No loss comes from an arm slot to the entry.
pub quiet-within : (plan : FaultPlan) (r : Return) (slot : ℕ) → IsGoodPlan plan → Contains plan.returns r
    → r.armed ≤ slot
    → slot ≤ r.entered → incident_at plan slot ≡ None
quiet-within plan r slot good among from to =
    never-found (incident_at plan slot) (λ incident found.
    elim ((good.returns r among).losses slot incident found) [
      | inl early ↦ omega (arith, early, good.count)
      | inr late ↦ omega (arith, late, good.count)
    ])

pub armed-quiet : (plan : FaultPlan) (slot k : ℕ) → IsGoodPlan plan → is_armed_by plan slot k ≡ true
    → incident_at plan slot ≡ None
armed-quiet plan slot k good is =
    let found = armed-is plan slot k is in
    let at = found.armed in
    let after = (good.returns found.return found.among).after in
    quiet-within plan found.return slot good found.among (omega (arith, at)) (omega (arith, at, after))

pub entry-quiet : (plan : FaultPlan) (slot k : ℕ) → IsGoodPlan plan → enters plan slot k ≡ true
    → incident_at plan slot ≡ None
entry-quiet plan slot k good is =
    let found = entry-is plan slot k is in
    let at = found.entered in
    let after = (good.returns found.return found.among).after in
    quiet-within plan found.return slot good found.among (omega (arith, at, after)) (omega (arith, at))

-- the slot of an entry is a good one, of another node
pub entry-good : (plan : FaultPlan) (slot k : ℕ) → IsGoodPlan plan → enters plan slot k ≡ true
    → (is_good_slot plan slot ≡ true) × (sender plan slot ≢ k)
entry-good plan slot k good is =
    let found = entry-is plan slot k is in
    let r = found.return in
    let at = found.entered in
    let entry = (good.returns r found.among).entry (let within = found.within in omega (arith, at, within)) in
    (ap (is_good_slot plan) (sym at) ∙ entry.0, λ own. entry.1 (ap (sender plan) at ∙ own ∙ sym found.node))

-- a node that is armed was lost
pub armed-lost : (plan : FaultPlan) (slot k : ℕ) → IsGoodPlan plan → is_armed_by plan (suc slot) k ≡ true
    → is_lost (fate_of plan slot k) ≡ true
armed-lost plan slot k good is =
    let found = armed-is plan (suc slot) k is in
    let was = (good.returns found.return found.among).was in
    let at = found.armed in
    let next = was.1.0 in
    let same : was.0 ≡ slot = omega (arith, at, next) in
    (λ i. is_lost (fate_of plan (sym same i) (sym found.node i))) ∙ was.1.1

-- nothing returns in the first slot
pub armed-late : (plan : FaultPlan) (k : ℕ) → IsGoodPlan plan → is_armed_by plan 0 k ≡ false
armed-late plan k good = false_from_ne_true _ (λ is.
    let found = armed-is plan 0 k is in
    let next = (good.returns found.return found.among).was.1.0 in
    let at = found.armed in
    omega (arith, at, next))

pub enters-late : (plan : FaultPlan) (k : ℕ) → IsGoodPlan plan → enters plan 0 k ≡ false
enters-late plan k good = false_from_ne_true _ (λ is.
    let found = entry-is plan 0 k is in
    let of_r = good.returns found.return found.among in
    let next = of_r.was.1.0 in
    let after = of_r.after in
    let at = found.entered in
    omega (arith, at, after, next))

-- A node listens from its arm slot until it enters.

-- it enters in no other slot in between
enters-not : (plan : FaultPlan) (r : Return) (slot : ℕ) → IsGoodPlan plan → Contains plan.returns r → r.armed ≤ slot
    → slot < r.entered → enters plan slot r.node ≡ false
enters-not plan r slot good among from to = false_from_ne_true _ (λ is.
    elim (entry-beside plan r slot r.node good among is) [
      | Itself same ↦ omega (arith, same)
      | Before early ↦ omega (arith, early, from, good.count)
      | After late ↦ omega (arith, late, to)
    ])

armed-not : (plan : FaultPlan) (r : Return) (slot : ℕ) → IsGoodPlan plan → Contains plan.returns r → r.armed < slot
    → slot < r.entered → is_armed_by plan slot r.node ≡ false
armed-not plan r slot good among from to = false_from_ne_true _ (λ is.
    elim (armed-beside plan r slot r.node good among is) [
      | Itself same ↦ omega (arith, same, from)
      | Before early ↦ omega (arith, early, from, good.count)
      | After late ↦ omega (arith, late, to)
    ])

pub listens-until : (plan : FaultPlan) (r : Return) (slot : ℕ) → IsGoodPlan plan → Contains plan.returns r
    → r.armed ≤ slot
    → slot < r.entered → fate_of plan slot r.node ≡ Listening r.armed
listens-until plan r zero good among from to =
    let next = (good.returns r among).was.1.0 in
    absurd (omega (arith, next, from))
listens-until plan r (suc slot) good among from to =
    let quiet = quiet-within plan r (suc slot) good among from (omega (arith, to)) in
    let entered = enters-not plan r (suc slot) good among from to in
    elim (eq-or-lt_of_le from) [
      | inl same ↦
          next-armed plan (suc slot) r.node (fate_of plan slot r.node)
          (ap (λ t. is_armed_by plan t r.node) (sym same) ∙ armed-by plan r among) entered quiet
          ∙ ap (λ t. Listening t) (sym same)
      | inr before ↦
          ap (next_fate plan (suc slot) r.node)
          (listens-until plan r slot good among (omega (arith, before)) (omega (arith, to)))
          ∙ next-listening plan (suc slot) r.node r.armed
          (armed-not plan r (suc slot) good among before to) entered quiet
    ]

-- so a node that enters was listening, or lost and armed in that very slot
pub entry-from : (plan : FaultPlan) (slot k : ℕ) → IsGoodPlan plan → enters plan (suc slot) k ≡ true
    → (is_armed_by plan (suc slot) k ≡ true) ⊎ ((since : ℕ) × (fate_of plan slot k ≡ Listening since))
entry-from plan slot k good is =
    let found = entry-is plan (suc slot) k is in
    let r = found.return in
    let at = found.entered in
    let after = (good.returns r found.among).after in
    elim (eq-or-lt_of_le after) [
      | inl same ↦ inl ((λ i. is_armed_by plan (sym (same ∙ at) i) (sym found.node i)) ∙ armed-by plan r found.among)
      | inr before ↦
          inr (
            r.armed,
            ap (fate_of plan slot) (sym found.node)
                ∙ listens-until plan r slot good found.among (omega (arith, before, at)) (omega (arith, at)),
          )
    ]
