-- Fates of a good plan from slot to slot: who is sound was so before, back to its entry, and stays so where no incident
-- strikes it.
use Rattle.safety_laws.proofs.PlanWords.{◌≡◌, ℕ, zero, suc, ◌+◌, ◌<◌, ◌≤◌, Bool, true}
use Rattle.safety_laws.proofs.PlanWords.{false, cond, not, ◌&&◌, Option, Some}
use Rattle.safety_laws.proofs.PlanWords.{None, refl, ap, sym, subst, ◌∙◌, inl, inr}
use Rattle.safety_laws.proofs.PlanWords.{arith, [], ◌==◌, and_parts, and_from}
use Rattle.safety_laws.proofs.PlanWords.{not_from_false, not-true, eqb-true, eq-eqb}
use Rattle.safety_laws.proofs.PlanWords.{both_ways, false_from_ne_true, le-leb}
use Rattle.safety_laws.proofs.PlanWords.{lt-ltb, eq-or-lt_of_le, has_node, Incident}
use Rattle.safety_laws.proofs.PlanWords.{FaultPlan, incident_at, is_armed_by}
use Rattle.safety_laws.proofs.PlanWords.{enters, sender, Fate, Absent, Sound, Falling, Fallen, Listening, fate_at_begin}
use Rattle.safety_laws.proofs.PlanWords.{struck, fate_of, is_sound_fate, is_sound_after, is_lost, is_lasting_after}
use Rattle.safety_laws.proofs.PlanWords.{IsGoodPlan, and-true}
use Rattle.safety_laws.specs.Fates.{is_absent, is_entry_near}
use Rattle.safety_laws.proofs.FateTells.{none-first}
use Rattle.safety_laws.proofs.FateSteps.{strikes, turned-same, next-same, next-entered, next-armed, sound-next}
use Rattle.safety_laws.proofs.FateSteps.{sound-from}
use Rattle.safety_laws.proofs.Returns.{entry-is, entry-from, armed-lost, armed-late, enters-late, armed-quiet, of-any}
use Rattle.safety_laws.proofs.Returns.{none-enters}

pub lost-unsound : (fate : Fate) → is_lost fate ≡ true → is_sound_fate fate ≡ false
lost-unsound Absent lost = refl
lost-unsound Sound lost = sym lost
lost-unsound (Falling change since) lost = refl
lost-unsound (Fallen change since shown) lost = refl
lost-unsound (Listening since) lost = refl

-- A sound node that did not enter since was sound before.
pub sound-before : (plan : FaultPlan) (slot later k : ℕ) → slot ≤ later → is_sound_after plan later k ≡ true
    → ((turn : ℕ) → slot < turn → turn ≤ later → enters plan turn k ≡ false) → is_sound_after plan slot k ≡ true
sound-before plan slot zero k within sound never =
    let none : zero ≡ slot = omega arith in
    subst (λ t. is_sound_after plan t k ≡ true) none sound
sound-before plan slot (suc later) k within sound never = elim (eq-or-lt_of_le within) [
  | inl same ↦ subst (λ t. is_sound_after plan t k ≡ true) (sym same) sound
  | inr before ↦
      sound-before plan slot later k (omega arith)
      (sound-from plan (suc later) k (fate_of plan later k) (never (suc later) before (omega arith)) sound)
      (λ turn after to. never turn after (omega arith))
]

-- as each was by a plan in which none returns
pub sound-earlier : (plan : FaultPlan) (slot later k : ℕ) → plan.returns ≡ [] → slot ≤ later
    → is_sound_after plan later k ≡ true → is_sound_after plan slot k ≡ true
sound-earlier plan slot later k none within sound =
    sound-before plan slot later k within sound (λ turn after to. none-enters plan turn k none)

-- and each lasting node was in the last round
pub lasting-before : (plan : FaultPlan) (slot later k : ℕ) → slot ≤ later → later < slot + plan.nodes
    → is_lasting_after plan later k ≡ true → is_sound_after plan slot k ≡ true
lasting-before plan slot later k within near lasting =
    let parts = and_parts _ _ lasting in
    sound-before plan slot later k within parts.0 (λ turn after to. false_from_ne_true _ (λ is.
    let found = entry-is plan turn k is in
    let r = found.return in
    let at : r.entered ≡ turn = found.entered in
    both_ways _ (not-true _ parts.1) (of-any (is_entry_near plan.nodes later k) plan.returns r found.among (and_from _ _
    (eq-eqb _ _ found.node) (and_from _ _ (le-leb r.entered later (omega (arith, at, to)))
    (lt-ltb _ _ (omega (arith, at, after, near))))))))

-- A node is absent always or never.

sound-present : (fate : Fate) → is_sound_fate fate ≡ true → is_absent fate ≡ false
sound-present Absent sound = sym sound
sound-present Sound sound = refl
sound-present (Falling change since) sound = refl
sound-present (Fallen change since shown) sound = refl
sound-present (Listening since) sound = refl

lost-present : (fate : Fate) → is_lost fate ≡ true → is_absent fate ≡ false
lost-present Absent lost = sym lost
lost-present Sound lost = refl
lost-present (Falling change since) lost = refl
lost-present (Fallen change since shown) lost = refl
lost-present (Listening since) lost = refl

absent-hit : (plan : FaultPlan) (slot k : ℕ) (incident : Incident) (hit : Bool) → IsGoodPlan plan
    → incident_at plan (suc slot) ≡ Some incident → (incident.node == k) ≡ hit
    → is_absent (cond hit (Falling incident.change (suc slot)) (fate_of plan slot k)) ≡ is_absent (fate_of plan slot k)
absent-hit plan slot k incident true good found hit =
    sym (sound-present (fate_of plan slot k)
    (ap (is_sound_after plan slot) (sym (eqb-true _ _ hit)) ∙ (good.losses slot incident found).was))
absent-hit plan slot k incident false good found hit = refl

absent-struck : (plan : FaultPlan) (slot k : ℕ) (found : Option Incident) → IsGoodPlan plan
    → incident_at plan (suc slot) ≡ found
    → is_absent (struck (suc slot) k (fate_of plan slot k) found) ≡ is_absent (fate_of plan slot k)
absent-struck plan slot k None good is = refl
absent-struck plan slot k (Some incident) good is = absent-hit plan slot k incident (incident.node == k) good is refl

-- a node that enters was there
entry-present : (plan : FaultPlan) (slot k : ℕ) → IsGoodPlan plan → enters plan (suc slot) k ≡ true
    → is_absent (fate_of plan slot k) ≡ false
entry-present plan slot k good enter = elim (entry-from plan slot k good enter) [
  | inl armed ↦ lost-present (fate_of plan slot k) (armed-lost plan slot k good armed)
  | inr listens ↦ ap is_absent listens.1
]

absent-next : (plan : FaultPlan) (slot k : ℕ) (armed entered : Bool) → IsGoodPlan plan
    → is_armed_by plan (suc slot) k ≡ armed → enters plan (suc slot) k ≡ entered
    → is_absent (fate_of plan (suc slot) k) ≡ is_absent (fate_of plan slot k)
absent-next plan slot k armed true good arms enter =
    ap is_absent (next-entered plan (suc slot) k (fate_of plan slot k) enter)
    ∙ sym (entry-present plan slot k good enter)
absent-next plan slot k true false good arms none =
    ap is_absent
    (next-armed plan (suc slot) k (fate_of plan slot k) arms none (armed-quiet plan (suc slot) k good arms))
    ∙ sym (lost-present (fate_of plan slot k) (armed-lost plan slot k good arms))
absent-next plan slot k false false good arms none =
    ap is_absent (next-same plan (suc slot) k (fate_of plan slot k) arms none)
    ∙ turned-same is_absent (sender plan (suc slot) == k) (suc slot)
    (struck (suc slot) k (fate_of plan slot k) (incident_at plan (suc slot))) (λ change since shown. refl)
    ∙ absent-struck plan slot k (incident_at plan (suc slot)) good refl

absent-begin : (begins : Bool) → is_absent (cond begins Sound Absent) ≡ not begins
absent-begin true = refl
absent-begin false = refl

pub absent-always : (plan : FaultPlan) (slot k : ℕ) → IsGoodPlan plan
    → is_absent (fate_of plan slot k) ≡ not (has_node plan.begin k)
absent-always plan zero k good =
    ap is_absent (next-same plan 0 k (fate_at_begin plan k) (armed-late plan k good) (enters-late plan k good))
    ∙ turned-same is_absent (sender plan 0 == k) 0 (struck 0 k (fate_at_begin plan k) (incident_at plan 0))
    (λ change since shown. refl)
    ∙ ap (λ found. is_absent (struck 0 k (fate_at_begin plan k) found)) (none-first plan good)
    ∙ absent-begin (has_node plan.begin k)
absent-always plan (suc slot) k good =
    absent-next plan slot k (is_armed_by plan (suc slot) k) (enters plan (suc slot) k) good refl refl
    ∙ absent-always plan slot k good

-- the nodes that begin are sound at the start
pub sound-first : (plan : FaultPlan) (k : ℕ) → IsGoodPlan plan → is_sound_after plan 0 k ≡ has_node plan.begin k
sound-first plan k good =
    let begins = has_node plan.begin k in
    sound-next plan 0 k (fate_at_begin plan k) (armed-late plan k good) (enters-late plan k good)
    ∙ ap (λ found. is_sound_fate (fate_at_begin plan k) && not (strikes found k)) (none-first plan good)
    ∙ sym (and-true (is_sound_fate (fate_at_begin plan k))) ∙ sound-begin begins
  where
    sound-begin : (b : Bool) → is_sound_fate (cond b Sound Absent) ≡ b
    sound-begin true = refl
    sound-begin false = refl

-- a sound node is not armed
pub sound-unarmed : (plan : FaultPlan) (slot k : ℕ) → IsGoodPlan plan → is_sound_after plan slot k ≡ true
    → is_armed_by plan (suc slot) k ≡ false
sound-unarmed plan slot k good sound = false_from_ne_true _ (λ arms.
    both_ways _ (lost-unsound (fate_of plan slot k) (armed-lost plan slot k good arms)) sound)

-- a sound node that no incident strikes stays so
pub sound-on : (plan : FaultPlan) (slot k : ℕ) → IsGoodPlan plan → is_sound_after plan slot k ≡ true
    → strikes (incident_at plan (suc slot)) k ≡ false → is_sound_after plan (suc slot) k ≡ true
sound-on plan slot k good sound missed = by (enters plan (suc slot) k) refl
  where
    by : (entered : Bool) → enters plan (suc slot) k ≡ entered → is_sound_after plan (suc slot) k ≡ true
    by true enter = ap is_sound_fate (next-entered plan (suc slot) k (fate_of plan slot k) enter)
    by false none =
        sound-next plan (suc slot) k (fate_of plan slot k) (sound-unarmed plan slot k good sound) none
        ∙ and_from _ _ sound (not_from_false _ missed)

pub sound-through : (plan : FaultPlan) (slot later k : ℕ) → IsGoodPlan plan → slot ≤ later
    → is_sound_after plan slot k ≡ true → ((turn : ℕ) → slot < turn → turn ≤ later → incident_at plan turn ≡ None)
    → is_sound_after plan later k ≡ true
sound-through plan slot zero k good within sound quiet =
    let none : slot ≡ zero = omega arith in
    subst (λ t. is_sound_after plan t k ≡ true) none sound
sound-through plan slot (suc later) k good within sound quiet = elim (eq-or-lt_of_le within) [
  | inl same ↦ subst (λ t. is_sound_after plan t k ≡ true) same sound
  | inr before ↦
      sound-on plan later k good
      (sound-through plan slot later k good (omega arith) sound (λ turn after to. quiet turn after (omega arith)))
      (ap (λ found. strikes found k) (quiet (suc later) before (omega arith)))
]
