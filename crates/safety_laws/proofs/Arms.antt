-- What is known of an armed node, one by one.
use Rattle.safety_laws.proofs.BackWords.{◌≡◌, ℕ, zero, suc, ◌+◌, ◌-◌, ◌<◌, ◌≤◌, Bool}
use Rattle.safety_laws.proofs.BackWords.{true, false, not, ◌&&◌, ◌||◌, List, []}
use Rattle.safety_laws.proofs.BackWords.{◌∷◌, length, refl, ap, subst, ◌∙◌, inl, inr}
use Rattle.safety_laws.proofs.BackWords.{arith, ◌==◌, nat_le, AllByRecursion}
use Rattle.safety_laws.proofs.BackWords.{list_any, and_parts, and_from, eqb-true, not-true, both_ways, lt-ltb, cases_lt}
use Rattle.safety_laws.proofs.BackWords.{and_right, or_right, false_from_ne_true, cases_eq}
use Rattle.safety_laws.proofs.BackWords.{has_node, Medl, Script, ClusterStart}
use Rattle.safety_laws.proofs.BackWords.{FaultyNode, numbers_of, two_rounds, four_rounds}
use Rattle.safety_laws.proofs.BackWords.{faulty_at, slots_before, joinings}
use Rattle.safety_laws.proofs.BackWords.{is_arm_line, is_line_of, is_forgiven, arms, is_armed, IsValidScript, all_in}
use Rattle.ttp_world.specs.declared.script.Event.TheVariants as event
use Rattle.ttp_world.specs.Returning.{is_long_faulty}
use Rattle.ttp_world.specs.Returning.{is_near_fault, is_apart, is_only_arm, is_heard}
use Rattle.ttp_world.specs.Returning.{is_offered}
use Rattle.ttp_world.specs.Script.{IsValidEvent}
use Rattle.safety_laws.proofs.EventLines.{arm-near, same-arm, arm-line}
use Rattle.safety_laws.proofs.Lists.{any-none, one-of-both}
use Rattle.safety_laws.proofs.BackRuns.{IsBackRun, joined-at}
use Rattle.safety_laws.proofs.Walk.{at, made, after, after-has, at-next, forgiven-late, forgiven-early}

pub record IsArmedIn (list : Medl) (script : Script) (start : ClusterStart) (k arm : ℕ) : Type 0 where
  pub less : k < length list.slots
  pub within : arm < script.slots
  pub armed : is_armed script k arm ≡ true
  pub long : is_long_faulty list script start k arm ≡ true
  pub apart : is_apart list script start arm ≡ true
  pub only : is_only_arm list script arm ≡ true
  pub alone : list_any (is_line_of list k arm) script.events ≡ false
  pub heard : is_heard list script start k arm ≡ true
  pub offered : is_offered list script start k arm ≡ true

contained-has : (fs : List FaultyNode) (k : ℕ) → list_any (λ f. f.node == k) fs ≡ true
    → has_node (numbers_of fs) k ≡ true
contained-has [] k has = absurd (both_ways _ refl has)
contained-has (f ∷ fs) k has = by (f.node == k) has (contained-has fs k)
  where
    by : (b : Bool) → (b || list_any (λ f. f.node == k) fs) ≡ true
        → (list_any (λ f. f.node == k) fs ≡ true → has_node (numbers_of fs) k ≡ true)
        → (b || has_node (numbers_of fs) k) ≡ true
    by true has rest = refl
    by false has rest = rest has

weaker : (two slot k : ℕ) (fs : List FaultyNode) → list_any (λ f. (f.node == k) && nat_le (f.slot + two) slot) fs ≡ true
    → list_any (λ f. f.node == k) fs ≡ true
weaker two slot k [] has = has
weaker two slot k (f ∷ fs) has = by (f.node == k) (nat_le (f.slot + two) slot) has (weaker two slot k fs)
  where
    by : (b c : Bool) → ((b && c) || list_any (λ f. (f.node == k) && nat_le (f.slot + two) slot) fs) ≡ true
        → (list_any (λ f. (f.node == k) && nat_le (f.slot + two) slot) fs ≡ true
        → list_any (λ f. f.node == k) fs ≡ true)
        → (b || list_any (λ f. f.node == k) fs) ≡ true
    by true c has rest = refl
    by false c has rest = rest has

nobody : (P : FaultyNode → Type 0) (slot : ℕ) (ks : List ℕ) → AllByRecursion P (all_in slot ks)
    → ((k : ℕ) → P (record { slot = slot; node = k }) → ⊥) → ks ≡ []
nobody P slot [] each not = refl
nobody P slot (k ∷ ks) each not = absurd (not k each.0)

-- a node that is armed is one of the list, in a slot of the run
armed-valid : (list : Medl) (script : Script) (k slot : ℕ) → IsValidScript list script → is_armed script k slot ≡ true
    → (k < length list.slots) × (slot < script.slots)
armed-valid list script k slot valid armed =
    let line = arm-line script k slot armed in
    subst (IsValidEvent list script) line.2 (valid.events line.0 (event.Arm k slot) line.1)

module _ {list : Medl} {script : Script} {start : ClusterStart} (run : IsBackRun list script start) where
  pub armed-in : (k arm : ℕ) → is_armed script k arm ≡ true → IsArmedIn list script start k arm
  armed-in k arm armed =
      let fits = armed-valid list script k arm run.script_valid armed in
      let one = and_parts _ _ (run.armed k arm fits.0 fits.1 armed) in
      let two = and_parts _ _ one.1 in
      let three = and_parts _ _ two.1 in
      let four = and_parts _ _ three.1 in
      let five = and_parts _ _ four.1 in
      record {
        less = fits.0;
        within = fits.1;
        armed = armed;
        long = one.0;
        apart = two.0;
        only = three.0;
        alone = not-true _ four.0;
        heard = five.0;
        offered = five.1;
      }

module _ {list : Medl} {script : Script} {start : ClusterStart} {k arm : ℕ}
    (is : IsArmedIn list script start k arm) where
  -- It is faulty.

  pub arm-faulty : has_node (at list script start arm) k ≡ true
  arm-faulty =
      contained-has (faulty_at list script start arm) k
      (weaker (two_rounds list) arm k (faulty_at list script start arm) is.long)

  -- Nobody becomes faulty near.

  pub arm-quiet : (slot : ℕ) → slot < script.slots → arm < slot + two_rounds list → slot < arm + four_rounds list
      → made list script start slot ≡ []
  arm-quiet slot within from to =
      let test : FaultyNode → Bool = λ f. is_near_fault list arm f.slot in
      let none = any-none test (joinings (slots_before list script start script.slots)) (not-true _ is.apart) in
      let near : is_near_fault list arm slot ≡ true = and_from _ _ (lt-ltb _ _ from) (lt-ltb _ _ to) in
      nobody (λ f. is_near_fault list arm f.slot ≡ false) slot (made list script start slot)
      (joined-at (λ f. is_near_fault list arm f.slot ≡ false) list script start script.slots slot within none)
      (λ j far. both_ways _ far near)

  -- Another arm line is far.

  pub arm-only : (j other : ℕ) → is_armed script j other ≡ true → arm ≤ other → other < arm + four_rounds list
      → (k ≡ j) × (arm ≡ other)
  arm-only j other armed from to =
      let some : 0 < four_rounds list = omega (arith, from, to) in
      let found =
      one-of-both (is_arm_line list arm) (arms k arm) (arms j other) script.events
      (λ e. arm-near list k arm arm e (omega arith) (omega arith)) (λ e. arm-near list j arm other e from to)
      (eqb-true _ _ is.only) is.armed armed in
      same-arm k j arm other found.0 found.1.0 found.1.1

-- It stays faulty for four rounds.

module _ {list : Medl} {script : Script} {start : ClusterStart} (run : IsBackRun list script start) {k arm : ℕ}
    (is : IsArmedIn list script start k arm) where
  -- in a slot of these no node's arm line of four rounds ago forgives it
  unforgiven : (slot : ℕ) → arm < slot → slot < arm + four_rounds list
      → is_forgiven list script (slots_before list script start slot) slot k ≡ false
  unforgiven slot from to =
      let some : 0 < four_rounds list = omega arith in
      elim (cases_lt slot (four_rounds list)) [
        | inl early ↦ forgiven-early list script start slot k some early
        | inr late ↦
            let then = slot - four_rounds list in
            forgiven-late list script start slot then k some (omega (arith, late)) ∙ and_right _ _
            (false_from_ne_true _ (λ armed.
            let same =
            arm-only (armed-in run k then armed) k arm is.armed (omega (arith, late)) (omega (arith, late)) in
            omega (arith, same.1, late)))
      ]

  pub arm-stays : (slot : ℕ) → arm ≤ slot → slot < arm + four_rounds list
      → has_node (at list script start slot) k ≡ true
  arm-stays zero from to =
      let same : arm ≡ zero = omega arith in
      subst (λ t. has_node (at list script start t) k ≡ true) same (arm-faulty is)
  arm-stays (suc slot) from to = elim (cases_eq arm (suc slot)) [
    | inl same ↦ subst (λ t. has_node (at list script start t) k ≡ true) same (arm-faulty is)
    | inr other ↦
        at-next list script start slot k ∙ and_from _ _
        (after-has list script start slot k ∙ or_right _ _ (arm-stays slot (omega arith) (omega arith)))
        (ap not (unforgiven (suc slot) (omega arith) to))
  ]

  -- an armed node is faulty after each slot of its four rounds
  pub armed-after : (slot : ℕ) → arm ≤ slot → slot < arm + four_rounds list
      → has_node (after list script start slot) k ≡ true
  armed-after slot from to = after-has list script start slot k ∙ or_right _ _ (arm-stays slot from to)
