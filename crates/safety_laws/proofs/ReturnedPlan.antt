-- The plan of a run whose armed nodes return is that of its faulty nodes and its arm lines.
use Rattle.safety_laws.proofs.BackWords.{◌≡◌, ◌≢◌, ℕ, zero, suc, ◌+◌, ◌-◌, ◌<◌, ◌≤◌, true}
use Rattle.safety_laws.proofs.BackWords.{false, not, ◌&&◌, ◌||◌, List, [], ◌∷◌}
use Rattle.safety_laws.proofs.BackWords.{◌++◌, length, Some, ◌⊎◌, refl, ap, sym, subst}
use Rattle.safety_laws.proofs.BackWords.{◌∙◌, inl, inr, arith, AllByRecursion}
use Rattle.safety_laws.proofs.BackWords.{and_parts, and_from, or_left, or_right, both_ways, cases_lt, cases_eq, eq-eqb}
use Rattle.safety_laws.proofs.BackWords.{false_from_ne_true, not-true, has_node, Medl, Script, ClusterStart, FaultyNode}
use Rattle.safety_laws.proofs.BackWords.{numbers_of, start_of, four_rounds, slots_before}
use Rattle.safety_laws.proofs.BackWords.{faulty_since, is_forgiven, is_armed}
use Rattle.safety_laws.proofs.BackWords.{is_on, fate_of, is_sound_after, lost_since, FaultPlan}
use Rattle.safety_laws.proofs.BackWords.{on-ever, made-was, incident_made}
use Rattle.safety_laws.proofs.BackWords.{incident-slot, all_in, back_plan_of}
use Rattle.ttp_world.specs.BackSafety.{is_armed_among}
use Rattle.ttp_world.specs.Returning.{started_since}
use Rattle.ttp_world.specs.Returning.{is_back_correct_after}
use Rattle.ttp_world.proofs.Filters.{each-filter}
use Rattle.safety_laws.specs.Fates.{is_sound_fate}
use Rattle.safety_laws.specs.Returned.{IsSoundAgain, IsPlanOfReturns}
use Rattle.safety_laws.proofs.Arms.{IsArmedIn, armed-in, arm-quiet, arm-only, arm-stays, armed-after}
use Rattle.safety_laws.proofs.Entries.{entry-of}
use Rattle.safety_laws.proofs.BackRuns.{IsBackRun}
use Rattle.safety_laws.proofs.Standing.{Standing, Clear, LostSince, ArmedSince, standing}
use Rattle.safety_laws.proofs.Standing.{entry-by, arm-late, clear-sound}
use Rattle.safety_laws.proofs.Walk.{at, made, after, after-has, at-next}
use Rattle.ttp_world.proofs.RangeFacts.{any-range}
use Rattle.safety_laws.proofs.Sounds.{IsEverNode, faulty-node, made-node}

-- Whoever is faulty after a slot became so in the slot that is told, and was not forgiven since.

record IsTold (list : Medl) (script : Script) (start : ClusterStart) (slot : ℕ) (f : FaultyNode) : Type 0 where
  to : f.slot ≤ slot
  made_in : has_node (made list script start f.slot) f.node ≡ true
  kept : (later : ℕ) → f.slot < later → later ≤ slot
      → is_forgiven list script (slots_before list script start later) later f.node ≡ false

told-now : (list : Medl) (script : Script) (start : ClusterStart) (slot : ℕ) (ks : List ℕ)
    → ((k : ℕ) → has_node ks k ≡ true → has_node (made list script start slot) k ≡ true)
    → AllByRecursion (IsTold list script start slot) (all_in slot ks)
told-now list script start slot [] among = tt
told-now list script start slot (k ∷ ks) among = (
  record {
    to = omega arith;
    made_in = among k (ap (λ b. b || has_node ks k) (eq-eqb k k refl));
    kept = λ later from to. absurd (omega arith);
  },
  told-now list script start slot ks (λ j has. among j (or_right _ _ has)),
)

told-append : (P : FaultyNode → Type 0) (fs gs : List FaultyNode) → AllByRecursion P fs → AllByRecursion P gs
    → AllByRecursion P (fs ++ gs)
told-append P [] gs each later = later
told-append P (f ∷ fs) gs each later = (each.0, told-append P fs gs each.1 later)

told-later : (list : Medl) (script : Script) (start : ClusterStart) (slot : ℕ) (fs : List FaultyNode)
    → AllByRecursion (λ f. IsTold list script start slot f
    × (not (is_forgiven list script (slots_before list script start (suc slot)) (suc slot) f.node) ≡ true)) fs
    → AllByRecursion (IsTold list script start (suc slot)) fs
told-later list script start slot [] each = tt
told-later list script start slot (f ∷ fs) each =
    let told = each.0.0 in
    let to = told.to in (
      record {
        to = omega (arith, to);
        made_in = told.made_in;
        kept = λ later from within. elim (cases_eq later (suc slot)) [
          | inl same ↦
              subst (λ t. is_forgiven list script (slots_before list script start t) t f.node ≡ false) (sym same)
              (not-true _ each.0.1)
          | inr other ↦ told.kept later from (omega (arith, within, other))
        ];
      },
      told-later list script start slot fs each.1,
    )

told-all : (list : Medl) (script : Script) (start : ClusterStart) (slot : ℕ)
    → AllByRecursion (IsTold list script start slot) (faulty_since (slots_before list script start (suc slot)))
told-all list script start zero =
    told-append (IsTold list script start 0) (all_in 0 (made list script start 0)) []
    (told-now list script start 0 (made list script start 0) (λ k has. has)) tt
told-all list script start (suc slot) =
    told-append (IsTold list script start (suc slot)) (all_in (suc slot) (made list script start (suc slot))) _
    (told-now list script start (suc slot) (made list script start (suc slot)) (λ k has. has))
    (told-later list script start slot _ (each-filter (IsTold list script start slot)
    (λ f. not (is_forgiven list script (slots_before list script start (suc slot)) (suc slot) f.node))
    (faulty_since (slots_before list script start (suc slot))) (told-all list script start slot)))

-- so it was faulty after each slot from then on
told-stays : (list : Medl) (script : Script) (start : ClusterStart) (slot : ℕ) (f : FaultyNode)
    → IsTold list script start slot f → (later : ℕ) → f.slot ≤ later → later ≤ slot
    → has_node (after list script start later) f.node ≡ true
told-stays list script start slot f told zero from to =
    let same : f.slot ≡ 0 = omega arith in
    after-has list script start 0 f.node ∙ or_left _ _
    (subst (λ t. has_node (made list script start t) f.node ≡ true) same told.made_in)
told-stays list script start slot f told (suc later) from to =
    by (cases_eq f.slot (suc later)) (told-stays list script start slot f told later)
  where
    by : (f.slot ≡ suc later) ⊎ (f.slot ≢ suc later)
        → (f.slot ≤ later → later ≤ slot → has_node (after list script start later) f.node ≡ true)
        → has_node (after list script start (suc later)) f.node ≡ true
    by (inl same) older =
        after-has list script start (suc later) f.node ∙ or_left _ _
        (subst (λ t. has_node (made list script start t) f.node ≡ true) same told.made_in)
    by (inr other) older =
        after-has list script start (suc later) f.node ∙ or_right _ _ (at-next list script start later f.node
        ∙ and_from _ _ (older (omega arith) (omega arith)) (ap not (told.kept (suc later) (omega arith) to)))

-- and at the beginning of each later one
told-at : (list : Medl) (script : Script) (start : ClusterStart) (slot : ℕ) (f : FaultyNode)
    → IsTold list script start slot f → (later : ℕ) → f.slot < later → later ≤ slot
    → has_node (at list script start later) f.node ≡ true
told-at list script start slot f told zero from to = absurd (omega arith)
told-at list script start slot f told (suc later) from to =
    at-next list script start later f.node ∙ and_from _ _
    (told-stays list script start slot f told later (omega arith) (omega arith))
    (ap not (told.kept (suc later) (omega arith) to))

-- An arm line among slots.

module _ {list : Medl} {script : Script} {start : ClusterStart} (run : IsBackRun list script start) where
  abbrev plan : FaultPlan
  plan = back_plan_of list script start

  -- A faulty node that was not armed since is lost since it became faulty.
  told-lost : (turn slot : ℕ) (f : FaultyNode) → slot ≡ start.slot + turn → slot < script.slots
      → IsTold list script start slot f → is_armed_among script f.node f.slot (suc slot - f.slot) ≡ false
      → lost_since (fate_of plan turn f.node) ≡ Some (f.slot - start.slot)
  told-lost turn slot f now within told unarmed =
      by (standing run turn slot f.node now within node.0 node.1)
    where
      node : IsEverNode list script f.node
      node = made-node run f.slot f.node told.made_in

      fresh : has_node (at list script start f.slot) f.node ≡ false
      fresh = (made-was run.course f.slot f.node told.made_in).none

      by : Standing list script start slot f.node (fate_of plan turn f.node)
          → lost_since (fate_of plan turn f.node) ≡ Some (f.slot - start.slot)
      by (Clear out sound) =
          absurd (both_ways _ out (told-stays list script start slot f told slot told.to (omega arith)))
      by (LostSince since lost) = elim (cases_eq since f.slot) [
        | inl same ↦ lost.fate_is ∙ ap (λ s. Some (s - start.slot)) same
        | inr other ↦ elim (cases_lt since f.slot) [
          | inl before ↦ absurd (both_ways _ fresh (lost.stays f.slot before told.to))
          | inr later ↦
              absurd (both_ways _ lost.before (told-at list script start slot f told since (omega arith) lost.to))
        ]
      ]
      by (ArmedSince arm armed) = elim (cases_lt arm f.slot) [
        | inl before ↦
            let to = told.to in
            let soon = armed.to in
            absurd (both_ways _ fresh (arm-stays run armed.is f.slot (omega arith) (omega (arith, to, soon))))
        | inr from ↦
            let to = armed.from in
            absurd (both_ways _ unarmed
            (any-range (is_armed script f.node) f.slot (suc slot - f.slot) arm from (omega (arith, to, from))
            armed.is.armed))
      ]

  -- A node that was armed four rounds ago is sound again.
  again : (turn slot k arm : ℕ) → slot ≡ start.slot + turn → slot < script.slots → suc slot ≡ arm + four_rounds list
      → IsArmedIn list script start k arm → IsSoundAgain plan turn k
  again turn slot k arm now within due is = record {
    late = let late = arm-late run is in omega (arith, late, now, due);
    sound = by (standing run turn slot k now within node.0 node.1);
    quiet = λ u to near.
        incident-slot run.course u (start.slot + u) refl (omega arith)
        ∙ ap (incident_made list script start (start.slot + u))
        (arm-quiet is (start.slot + u) (omega arith) (omega arith) (omega arith));
    entered = λ u to near. false_from_ne_true _ (λ enter.
        let by = entry-by run u (start.slot + u) k refl (omega arith) enter in
        let from = by.from in
        let soon = by.to in
        let same = arm-only is k by.arm by.is.armed (omega (arith, soon, near, due, now))
        (omega (arith, from, due, now, to)) in
        let one = same.1 in
        omega (arith, one, soon, near, due, now, count));
  }
    where
      count : 4 ≤ length list.slots
      count = run.course.valid.count.0

      node : IsEverNode list script k
      node = faulty-node run arm k
          (armed-after run is arm (omega arith) (omega (arith, count)))

      has : has_node (at list script start slot) k ≡ true
      has = arm-stays run is slot (omega (arith, due, count)) (omega (arith, due))

      by : Standing list script start slot k (fate_of plan turn k) → is_sound_after plan turn k ≡ true
      by (Clear out sound) =
          absurd (both_ways _ out (armed-after run is slot (omega (arith, due, count)) (omega (arith, due))))
      by (LostSince since lost) = elim (cases_lt arm since) [
        | inl before ↦
            let to = lost.to in
            absurd (both_ways _ lost.before (arm-stays run is since (omega arith) (omega (arith, to, due))))
        | inr from ↦ absurd (both_ways _ (lost.unarmed arm from (omega (arith, due, count)))
            is.armed)
      ]
      by (ArmedSince other armed) =
          let from = armed.from in
          let soon = armed.to in
          let same : other ≡ arm = elim (cases_lt arm other) [
            | inl before ↦ sym (arm-only is k other armed.is.armed (omega arith) (omega (arith, from, due))).1
            | inr after ↦ (arm-only armed.is k arm is.armed after (omega (arith, soon, due, count))).1
          ] in
          let entry = entry-of armed.is in
          let to = entry.to in
          ap is_sound_fate (armed.entered (omega (arith, to, same, due, count)))

  abbrev IsLost : ℕ → FaultyNode → Type 0
  IsLost turn f =
      is_armed_among script f.node f.slot (suc (start.slot + turn) - f.slot) ≡ false
      → lost_since (fate_of plan turn f.node) ≡ Some (f.slot - start.slot)

  pub returned-plan : start_of list script ≡ Some start
      → IsPlanOfReturns list script start (back_plan_of list script start)
  returned-plan started = record {
    sound = λ turn k less within correct.
        let slot = start.slot + turn in
        let known : is_back_correct_after list script slot k
        ≡ (is_on script k slot && not (has_node (after list script start slot) k)) =
        ap (λ found. is_on script k slot && not (has_node (numbers_of (started_since list script slot found)) k))
        started in
        let parts = and_parts _ _ (sym known ∙ correct) in
        clear-sound run turn slot k refl within less (on-ever script k slot parts.0) (not-true _ parts.1);
    faulty = λ turn within.
        subst (AllByRecursion (IsLost turn)) (sym (ap (started_since list script (start.slot + turn)) started))
        (each-told turn (start.slot + turn) refl within _ (told-all list script start (start.slot + turn)));
    returned = λ turn k less within long armed.
        let slot = start.slot + turn in
        let due : suc slot ≡ suc slot - four_rounds list + four_rounds list = omega (arith, long) in
        let count = run.course.valid.count in
        again turn slot k (suc slot - four_rounds list) refl within due
        (armed-in run k (suc slot - four_rounds list) armed);
  }
    where
      each-told : (turn slot : ℕ) → slot ≡ start.slot + turn → slot < script.slots → (fs : List FaultyNode)
          → AllByRecursion (IsTold list script start slot) fs → AllByRecursion (IsLost turn) fs
      each-told turn slot now within [] each = tt
      each-told turn slot now within (f ∷ fs) each = (
        λ unarmed.
            told-lost turn slot f now within each.0
            (ap (λ s. is_armed_among script f.node f.slot (suc s - f.slot)) now ∙ unarmed),
        each-told turn slot now within fs each.1,
      )
