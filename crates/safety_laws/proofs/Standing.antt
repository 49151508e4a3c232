-- How a node stands after each slot: it is sound, lost since a slot, or armed less than four rounds ago.
use Rattle.safety_laws.proofs.BackWords.{◌≡◌, ℕ, zero, suc, ◌+◌, ◌-◌, ◌<◌, ◌≤◌, Bool}
use Rattle.safety_laws.proofs.BackWords.{true, false, cond, not, ◌&&◌, List, []}
use Rattle.safety_laws.proofs.BackWords.{◌∷◌, ◌++◌, length, Some, None, refl, ap, sym}
use Rattle.safety_laws.proofs.BackWords.{subst, ◌∙◌, inl, inr, arith, ◌==◌, nat_le}
use Rattle.safety_laws.proofs.BackWords.{AllByRecursion, list_any, filter, Contains}
use Rattle.safety_laws.proofs.BackWords.{and_parts, and_from, and_right, or_from}
use Rattle.safety_laws.proofs.BackWords.{or_left, or_right, both_ways, cases_lt, cases_eq, false_from_ne_true, eqb-true}
use Rattle.safety_laws.proofs.BackWords.{not_from_false, leb-true, has_node, has_node-sieve, Medl, Script, ClusterStart}
use Rattle.safety_laws.proofs.BackWords.{FaultyNode, numbers_of, two_rounds, four_rounds}
use Rattle.safety_laws.proofs.BackWords.{slots_before, faulty_at, faulty_since}
use Rattle.safety_laws.proofs.BackWords.{is_forgiven, is_armed, is_ever_on, Return, FaultPlan, incident_at, is_armed_by}
use Rattle.safety_laws.proofs.BackWords.{is_armed_there, enters, Fate, Absent, Sound, Listening, fate_of, fate_at_begin}
use Rattle.safety_laws.proofs.BackWords.{next_fate, lost_since, is_sound_after, strikes, sound-fate, incident_made}
use Rattle.safety_laws.proofs.BackWords.{incident-slot, strikes-slot, any-of, all_in}
use Rattle.safety_laws.proofs.BackWords.{made-was, entry_slot, back_plan_of}
use Rattle.std.proofs.lemmas.Bool.{and_left}
use Rattle.safety_laws.specs.Plan.{enters_there}
use Rattle.safety_laws.specs.Fates.{is_sound_fate}
use Rattle.safety_laws.proofs.FateSteps.{sound-next, since-kept, since-now, next-entered}
use Rattle.safety_laws.proofs.FateSteps.{next-armed, next-listening}
use Rattle.safety_laws.proofs.Incidents.{made-early}
use Rattle.safety_laws.proofs.Returns.{enters-by}
use Rattle.safety_laws.proofs.ArmLines.{armed-same, return_at, return-of, among-line, each-at}
use Rattle.safety_laws.proofs.Arms.{IsArmedIn, armed-in, arm-faulty, arm-quiet, arm-only, arm-stays, armed-after}
use Rattle.safety_laws.proofs.Entries.{entry-of}
use Rattle.safety_laws.proofs.BackRuns.{IsBackRun}
use Rattle.safety_laws.proofs.Walk.{at, made, after, after-has, at-next, forgiven-late, forgiven-early}

-- Arm lines come four rounds after the start or later.

weaker : (P : FaultyNode → Type 0) (p : FaultyNode → Bool) (fs : List FaultyNode) → AllByRecursion P fs
    → AllByRecursion P (filter p fs)
weaker P p [] each = tt
weaker P p (f ∷ fs) each = step (p f) (weaker P p fs each.1)
  where
    step : (b : Bool) → AllByRecursion P (filter p fs) → AllByRecursion P (cond b (f ∷ filter p fs) (filter p fs))
    step true rest = (each.0, rest)
    step false rest = rest

cons-nil : (k : ℕ) (ks : List ℕ) → (k ∷ ks) ≡ [] → ⊥
cons-nil k ks is = cc

-- it became faulty two rounds after the start or later, and before a slot
abbrev IsDated : Medl → ClusterStart → ℕ → FaultyNode → Type 0
IsDated list start slot f = (start.slot + two_rounds list ≤ f.slot) × (f.slot < slot)

dated-later : (list : Medl) (start : ClusterStart) (slot : ℕ) (fs : List FaultyNode)
    → AllByRecursion (IsDated list start slot) fs → AllByRecursion (IsDated list start (suc slot)) fs
dated-later list start slot [] each = tt
dated-later list start slot (f ∷ fs) each = ((each.0.0, omega (arith, each.0.1)), dated-later list start slot fs each.1)

dated-with : (list : Medl) (start : ClusterStart) (slot : ℕ) (ks : List ℕ) (fs : List FaultyNode)
    → start.slot + two_rounds list ≤ slot → AllByRecursion (IsDated list start (suc slot)) fs
    → AllByRecursion (IsDated list start (suc slot)) (all_in slot ks ++ fs)
dated-with list start slot [] fs late older = older
dated-with list start slot (k ∷ ks) fs late older = ((late, omega arith), dated-with list start slot ks fs late older)

long-late : (list : Medl) (script : Script) (start : ClusterStart) (k arm : ℕ) (fs : List FaultyNode)
    → AllByRecursion (IsDated list start arm) fs
    → list_any (λ f. (f.node == k) && nat_le (f.slot + two_rounds list) arm) fs ≡ true
    → start.slot + four_rounds list ≤ arm
long-late list script start k arm fs each has =
    let found = any-of (λ f. (f.node == k) && nat_le (f.slot + two_rounds list) arm) fs has in
    let f = found.0 in
    let late : start.slot + two_rounds list ≤ f.slot = (each-at (IsDated list start arm) fs f each found.1.0).0 in
    let long : f.slot + two_rounds list ≤ arm = leb-true _ _ (and_parts _ _ found.1.1).1 in
    omega (arith, late, long)

-- the arm line of a return
pub record HasLine (list : Medl) (script : Script) (start : ClusterStart) (r : Return) : Type 0 where
  pub arm : ℕ
  pub is : IsArmedIn list script start r.node arm
  pub late : start.slot + four_rounds list ≤ arm
  pub same : r ≡ return_at list script start r.node arm
  pub armed : start.slot + r.armed ≡ arm
  pub entered : start.slot + r.entered ≡ entry_slot list script start r.node arm

pub record EntersBy (list : Medl) (script : Script) (start : ClusterStart) (slot k : ℕ) : Type 0 where
  pub arm : ℕ
  pub is : IsArmedIn list script start k arm
  pub entry : entry_slot list script start k arm ≡ slot
  pub from : arm ≤ slot
  pub to : slot < arm + two_rounds list

pub record IsLostSince (list : Medl) (script : Script) (start : ClusterStart) (slot k since : ℕ)
    (fate : Fate) : Type 0 where
  pub has : has_node (after list script start slot) k ≡ true
  pub to : since ≤ slot
  pub before : has_node (at list script start since) k ≡ false
  pub stays : (later : ℕ) → since < later → later ≤ slot → has_node (at list script start later) k ≡ true
  pub fate_is : lost_since fate ≡ Some (since - start.slot)
  pub unarmed : (arm : ℕ) → since ≤ arm → arm ≤ slot → is_armed script k arm ≡ false

pub record IsArmedSince (list : Medl) (script : Script) (start : ClusterStart) (slot k arm : ℕ)
    (fate : Fate) : Type 0 where
  pub is : IsArmedIn list script start k arm
  pub from : arm ≤ slot
  pub to : slot < arm + four_rounds list
  pub waits : slot < entry_slot list script start k arm → fate ≡ Listening (arm - start.slot)
  pub entered : entry_slot list script start k arm ≤ slot → fate ≡ Sound

pub data Standing (list : Medl) (script : Script) (start : ClusterStart) (slot k : ℕ) (fate : Fate) : Type 0 where
  Clear : (none : has_node (after list script start slot) k ≡ false) → (sound : fate ≡ Sound)
      → Standing list script start slot k fate
  LostSince : (since : ℕ) → (lost : IsLostSince list script start slot k since fate)
      → Standing list script start slot k fate
  ArmedSince : (arm : ℕ) → (armed : IsArmedSince list script start slot k arm fate)
      → Standing list script start slot k fate

module _ {list : Medl} {script : Script} {start : ClusterStart} (run : IsBackRun list script start) where
  dated-made : (slot : ℕ) (ks : List ℕ) (fs : List FaultyNode) → slot < script.slots → made list script start slot ≡ ks
      → AllByRecursion (IsDated list start (suc slot)) fs
      → AllByRecursion (IsDated list start (suc slot)) (all_in slot ks ++ fs)
  dated-made slot [] fs within is older = older
  dated-made slot (k ∷ ks) fs within is older =
      elim (cases_lt slot (start.slot + two_rounds list)) [
        | inl early ↦ absurd (cons-nil k ks (sym is ∙ made-early run.course slot within early))
        | inr late ↦ dated-with list start slot (k ∷ ks) fs late older
      ]

  late-after : (slot : ℕ) → slot ≤ script.slots
      → AllByRecursion (IsDated list start slot) (faulty_since (slots_before list script start slot))
  late-after zero within = tt
  late-after (suc slot) within =
      let ks = made list script start slot in
      dated-made slot ks (faulty_at list script start slot) within refl
      (dated-later list start slot (faulty_at list script start slot) (weaker (IsDated list start slot)
      (λ f. not (is_forgiven list script (slots_before list script start slot) slot f.node))
      (faulty_since (slots_before list script start slot)) (late-after slot (omega arith))))

  pub arm-late : {k arm : ℕ} → IsArmedIn list script start k arm → start.slot + four_rounds list ≤ arm
  arm-late {k = k} {arm = arm} is =
      long-late list script start k arm (faulty_at list script start arm) (weaker (IsDated list start arm)
      (λ f. not (is_forgiven list script (slots_before list script start arm) arm f.node))
      (faulty_since (slots_before list script start arm)) (late-after arm (omega (arith, is.within)))) is.long

  pub line-of : (r : Return) → Contains (back_plan_of list script start).returns r → HasLine list script start r
  line-of r among =
      let of = return-of list script start r among in
      let is = armed-in run r.node of.arm of.armed in
      let late = arm-late is in
      let entry = entry-of is in
      let armed : r.armed ≡ of.arm - start.slot = ap (λ (q : Return). q.armed) of.is in
      let entered : r.entered ≡ entry_slot list script start r.node of.arm - start.slot =
      ap (λ (q : Return). q.entered) of.is in
      record {
        arm = of.arm;
        is = is;
        late = late;
        same = of.is;
        armed = omega (arith, armed, late);
        entered = omega (arith, entered, entry.from, late);
      }

  -- a node that listens again by the plan has its arm line
  pub armed-by-line : (turn k : ℕ) → is_armed_by (back_plan_of list script start) turn k ≡ true
      → (arm : ℕ) × (IsArmedIn list script start k arm × (arm ≡ start.slot + turn))
  armed-by-line turn k is =
      let found = any-of (is_armed_there turn k) (back_plan_of list script start).returns is in
      let parts = and_parts _ _ found.1.1 in
      let line = line-of found.0 found.1.0 in
      let turns : found.0.armed ≡ turn = eqb-true _ _ parts.0 in (
        line.arm,
        (
          subst (λ j. IsArmedIn list script start j line.arm) (eqb-true _ _ parts.1) line.is,
          omega (arith, line.armed, turns),
        ),
      )

  -- no node is armed at the start
  none-armed-first : (k : ℕ) → is_armed_by (back_plan_of list script start) 0 k ≡ false
  none-armed-first k =
      false_from_ne_true _ (λ is.
      let line = armed-by-line 0 k is in
      let late = arm-late line.1.0 in
      omega (arith, line.1.1, late, run.course.valid.count))

  -- A node enters by its arm line.

  pub entry-by : (turn slot k : ℕ) → slot ≡ start.slot + turn → slot < script.slots
      → enters (back_plan_of list script start) turn k ≡ true → EntersBy list script start slot k
  entry-by turn slot k now within is =
      let found = any-of (enters_there turn k) (back_plan_of list script start).returns (and_parts _ _ is).0 in
      let parts = and_parts _ _ found.1.1 in
      let line = line-of found.0 found.1.0 in
      let node : found.0.node ≡ k = eqb-true _ _ parts.1 in
      let turns : found.0.entered ≡ turn = eqb-true _ _ parts.0 in
      let known : IsArmedIn list script start k line.arm =
      subst (λ j. IsArmedIn list script start j line.arm) node line.is in
      let entry = entry-of known in
      let at : entry_slot list script start k line.arm ≡ slot =
      ap (λ j. entry_slot list script start j line.arm) (sym node) ∙ sym line.entered ∙ omega (arith, turns, now) in
      record {
        arm = line.arm;
        is = known;
        entry = at;
        from = omega (arith, at, entry.from);
        to = omega (arith, at, entry.soon (omega (arith, at, within)));
      }

  pub entry-enters : (turn slot k arm : ℕ) → slot ≡ start.slot + turn → slot < script.slots
      → IsArmedIn list script start k arm → entry_slot list script start k arm ≡ slot
      → enters (back_plan_of list script start) turn k ≡ true
  entry-enters turn slot k arm now within is entry =
      let plan = back_plan_of list script start in
      let at : entry_slot list script start k arm - start.slot ≡ turn = omega (arith, entry, now) in
      subst (λ t. enters plan t k ≡ true) at
      (enters-by plan (return_at list script start k arm) (among-line list script start k arm is.armed)
      (omega (arith, at, now, within)))

  -- Standing.

  -- One slot.

  unarmed-out : (slot k : ℕ) → has_node (at list script start slot) k ≡ false → is_armed script k slot ≡ false
  unarmed-out slot k out = false_from_ne_true _ (λ armed.
      both_ways _ out (arm-faulty (armed-in run k slot armed)))

  module _ (turn slot : ℕ) (now : suc slot ≡ start.slot + suc turn) (within : suc slot < script.slots) where
    plan-unarmed : (k : ℕ) → is_armed script k (suc slot) ≡ false
        → is_armed_by (back_plan_of list script start) (suc turn) k ≡ false
    plan-unarmed k unarmed = armed-same list script start turn k ∙ ap (is_armed script k) (sym now) ∙ unarmed

    -- of a node that is not faulty at the beginning of the slot
    out-next : (k : ℕ) (fate : Fate) → has_node (at list script start (suc slot)) k ≡ false → fate ≡ Sound
        → enters (back_plan_of list script start) (suc turn) k ≡ false
        → Standing list script start (suc slot) k (next_fate (back_plan_of list script start) (suc turn) k fate)
    out-next k fate out sound none =
        by (has_node (made list script start (suc slot)) k) refl
      where
        plan : FaultPlan
        plan = back_plan_of list script start

        unarmed : is_armed script k (suc slot) ≡ false
        unarmed = unarmed-out (suc slot) k out

        quiet : is_armed_by (back_plan_of list script start) (suc turn) k ≡ false
        quiet = plan-unarmed k unarmed

        strikes-is : strikes (incident_at (back_plan_of list script start) (suc turn)) k
            ≡ has_node (made list script start (suc slot)) k
        strikes-is = strikes-slot run.course (suc turn) (suc slot) k now within

        by : (b : Bool) → has_node (made list script start (suc slot)) k ≡ b
            → Standing list script start (suc slot) k (next_fate (back_plan_of list script start) (suc turn) k fate)
        by true hit =
            let turns : suc turn ≡ suc slot - start.slot = omega (arith, now) in
            LostSince (suc slot) (record {
              has = after-has list script start (suc slot) k
                  ∙ or_left _ _ hit;
              to = omega arith;
              before = out;
              stays = λ later from to. absurd (omega (arith, from, to));
              fate_is = since-now plan (suc turn) k fate quiet none (strikes-is ∙ hit) ∙ ap Some turns;
              unarmed = λ arm from to.
                  let same : suc slot ≡ arm = omega arith in
                  subst (λ t. is_armed script k t ≡ false) same unarmed;
            })
        by false missed =
            Clear (after-has list script start (suc slot) k ∙ or_from _ _ missed
            out) (sound-fate (next_fate plan (suc turn) k fate) (sound-next plan (suc turn) k fate quiet none
            ∙ and_from _ _ (ap is_sound_fate sound) (not_from_false _ (strikes-is ∙ missed))))

    clear-next : (k : ℕ) (fate : Fate) → has_node (after list script start slot) k ≡ false → fate ≡ Sound
        → Standing list script start (suc slot) k (next_fate (back_plan_of list script start) (suc turn) k fate)
    clear-next k fate none sound =
        let plan = back_plan_of list script start in
        let out : has_node (at list script start (suc slot)) k ≡ false =
        at-next list script start slot k ∙ and_left _ _ none in
        let unarmed = unarmed-out (suc slot) k out in
        out-next k fate out sound
        (false_from_ne_true _ (λ enter.
        let by = entry-by (suc turn) (suc slot) k now within enter in
        elim (cases_eq by.arm (suc slot)) [
          | inl same ↦ both_ways _ unarmed (ap (is_armed script k) (sym same) ∙ by.is.armed)
          | inr other ↦
              let stays =
              arm-stays run by.is slot (omega (arith, by.from, other)) (omega (arith, by.from, by.to, other)) in
              both_ways _ none (after-has list script start slot k ∙ or_right _ _ stays)
        ]))

    -- a lost node is not forgiven
    pub lost-stays : (k since : ℕ) (fate : Fate) → IsLostSince list script start slot k since fate
        → is_forgiven list script (slots_before list script start (suc slot)) (suc slot) k ≡ false
    lost-stays k since fate lost =
        let some : 0 < four_rounds list = omega (arith, run.course.valid.count) in
        elim (cases_lt (suc slot) (four_rounds list)) [
          | inl early ↦ forgiven-early list script start (suc slot) k some early
          | inr late ↦
              let then = suc slot - four_rounds list in
              forgiven-late list script start (suc slot) then k some (omega (arith, late))
              ∙ false_from_ne_true (has_node (at list script start then) k && is_armed script k then) (λ both.
              let armed = (and_parts (has_node (at list script start then) k) (is_armed script k then) both).1 in
              elim (cases_lt then since) [
                | inl before ↦
                    let line = armed-in run k then armed in
                    both_ways (has_node (at list script start since) k) lost.before
                    (arm-stays run line since (omega (arith, before)) (omega (arith, lost.to, late, before)))
                | inr from ↦
                    both_ways (is_armed script k then) (lost.unarmed then from (omega (arith, late, some))) armed
              ])
        ]

    pub lost-in : (k since : ℕ) (fate : Fate) → IsLostSince list script start slot k since fate
        → has_node (at list script start (suc slot)) k ≡ true
    lost-in k since fate lost =
        at-next list script start slot k ∙ and_from _ _ lost.has (ap not (lost-stays k since fate lost))

    -- nor does it enter, if it is not armed in the slot
    lost-out : (k since : ℕ) (fate : Fate) → IsLostSince list script start slot k since fate
        → is_armed script k (suc slot) ≡ false → enters (back_plan_of list script start) (suc turn) k ≡ false
    lost-out k since fate lost unarmed =
        false_from_ne_true _ (λ enter.
        let by = entry-by (suc turn) (suc slot) k now within enter in
        elim (cases_eq by.arm (suc slot)) [
          | inl same ↦ both_ways _ unarmed (ap (is_armed script k) (sym same) ∙ by.is.armed)
          | inr other ↦ elim (cases_lt by.arm since) [
            | inl before ↦
                both_ways _ lost.before (arm-stays run by.is since (omega (arith, before))
                (omega (arith, lost.to, by.to, before)))
            | inr from ↦ both_ways _ (lost.unarmed by.arm from (omega (arith, by.from, other))) by.is.armed
          ]
        ])

    -- nothing is made faulty in a slot near an arm line
    quiet-next : (k arm : ℕ) → IsArmedIn list script start k arm → arm ≤ suc slot → suc slot < arm + four_rounds list
        → incident_at (back_plan_of list script start) (suc turn) ≡ None
    quiet-next k arm is from to =
        incident-slot run.course (suc turn) (suc slot) now within ∙ ap (incident_made list script start (suc slot))
        (arm-quiet is (suc slot) within (omega (arith, from, run.course.valid.count)) to)

    -- a node that is armed in the slot
    armed-now : (k : ℕ) (fate : Fate) → IsArmedIn list script start k (suc slot)
        → Standing list script start (suc slot) k (next_fate (back_plan_of list script start) (suc turn) k fate)
    armed-now k fate is =
        ArmedSince (suc slot) (record {
          is = is;
          from = omega arith;
          to = omega (arith, run.course.valid.count);
          waits = λ waits.
              next-armed plan (suc turn) k fate
              (armed-same list script start turn k ∙ ap (is_armed script k) (sym now) ∙ is.armed)
              (false_from_ne_true _ (λ enter.
              let by = entry-by (suc turn) (suc slot) k now within enter in
              let same = arm-only by.is k (suc slot) is.armed by.from (omega (arith, by.to)) in
              let entry : entry_slot list script start k (suc slot) ≡ suc slot =
              ap (entry_slot list script start k) (sym same.1) ∙ by.entry in
              omega (arith, waits, entry))) (quiet-next k (suc slot) is (omega arith)
              (omega (arith, run.course.valid.count)))
              ∙ ap Listening turns;
          entered = λ there.
              next-entered plan (suc turn) k fate (entry-enters (suc turn) (suc slot) k (suc slot) now within is
              (omega (arith, there, (entry-of is).from)));
        })
      where
        plan : FaultPlan
        plan = back_plan_of list script start

        turns : suc turn ≡ suc slot - start.slot
        turns = omega (arith, now)

    lost-next : (k since : ℕ) (fate : Fate) → IsLostSince list script start slot k since fate
        → Standing list script start (suc slot) k (next_fate (back_plan_of list script start) (suc turn) k fate)
    lost-next k since fate lost =
        by (is_armed script k (suc slot)) refl
      where
        plan : FaultPlan
        plan = back_plan_of list script start

        stays : has_node (at list script start (suc slot)) k ≡ true
        stays = lost-in k since fate lost

        by : (armed : Bool) → is_armed script k (suc slot) ≡ armed
            → Standing list script start (suc slot) k (next_fate (back_plan_of list script start) (suc turn) k fate)
        by true armed = armed-now k fate (armed-in run k (suc slot) armed)
        by false unarmed =
            let missed : has_node (made list script start (suc slot)) k ≡ false =
            false_from_ne_true _ (λ hit.
            both_ways _ (made-was run.course (suc slot) k hit).none stays) in
            LostSince since (record {
              has = after-has list script start (suc slot) k
                  ∙ or_right _ _ stays;
              to = omega (arith, lost.to);
              before = lost.before;
              stays = λ later from to. elim (cases_eq later (suc slot)) [
                | inl same ↦ subst (λ t. has_node (at list script start t) k ≡ true) (sym same) stays
                | inr other ↦ lost.stays later from (omega (arith, to, other))
              ];
              fate_is = since-kept plan (suc turn) k fate (plan-unarmed k unarmed)
                  (lost-out k since fate lost unarmed)
                  (strikes-slot run.course (suc turn) (suc slot) k now within ∙ missed) ∙ lost.fate_is;
              unarmed = λ arm from to. elim (cases_eq arm (suc slot)) [
                | inl same ↦ ap (is_armed script k) same ∙ unarmed
                | inr other ↦ lost.unarmed arm from (omega (arith, to, other))
              ];
            })

    -- whoever enters while it is armed enters by that arm line
    entry-same : (k arm : ℕ) → IsArmedIn list script start k arm → arm ≤ slot → slot < arm + four_rounds list
        → is_armed script k (suc slot) ≡ false → enters (back_plan_of list script start) (suc turn) k ≡ true
        → entry_slot list script start k arm ≡ suc slot
    entry-same k arm is from to unarmed enter =
        let by = entry-by (suc turn) (suc slot) k now within enter in
        elim (cases_eq by.arm (suc slot)) [
          | inl same ↦ absurd (both_ways _ unarmed (ap (is_armed script k) (sym same) ∙ by.is.armed))
          | inr other ↦ elim (cases_lt arm by.arm) [
            | inl before ↦
                let same =
                arm-only is k by.arm by.is.armed (omega (arith, before)) (omega (arith, by.from, other, to)) in
                absurd (omega (arith, before, same.1))
            | inr after ↦
                let same = arm-only by.is k arm is.armed after (omega (arith, from, by.to)) in
                ap (entry_slot list script start k) (sym same.1) ∙ by.entry
          ]
        ]

    armed-next : (k arm : ℕ) (fate : Fate) → IsArmedSince list script start slot k arm fate
        → Standing list script start (suc slot) k (next_fate (back_plan_of list script start) (suc turn) k fate)
    armed-next k arm fate armed = elim (cases_eq (suc slot) (arm + four_rounds list)) [
      | inl over ↦
          let is = armed.is in
          let some : 0 < four_rounds list = omega (arith, run.course.valid.count) in
          let entry = entry-of is in
          let out : has_node (at list script start (suc slot)) k ≡ false =
          at-next list script start slot k ∙ and_right _ _
          (ap not (forgiven-late list script start (suc slot) arm k some over ∙ and_from _ _
          (arm-faulty is) is.armed)) in
          let unarmed = unarmed-out (suc slot) k out in
          out-next k fate out (armed.entered (omega (arith, entry.to, over, some)))
          (false_from_ne_true _ (λ enter.
          let same = entry-same k arm is armed.from armed.to unarmed enter in
          omega (arith, same, over, entry.to, some)))
      | inr other ↦
          let is = armed.is in
          let soon : suc slot < arm + four_rounds list = omega (arith, armed.to, other) in
          let unarmed : is_armed script k (suc slot) ≡ false =
          false_from_ne_true _ (λ again.
          let same = arm-only is k (suc slot) again (omega (arith, armed.from)) soon in
          omega (arith, same.1, armed.from)) in
          let quiet = plan-unarmed k unarmed in
          let none = quiet-next k arm is (omega (arith, armed.from)) soon in
          ArmedSince arm (record {
            is = is;
            from = omega (arith, armed.from);
            to = soon;
            waits = λ waits.
                ap (next_fate (back_plan_of list script start) (suc turn) k) (armed.waits (omega (arith, waits)))
                ∙ next-listening (back_plan_of list script start) (suc turn) k (arm - start.slot) quiet
                (false_from_ne_true _ (λ enter.
                let same = entry-same k arm is armed.from armed.to unarmed enter in
                omega (arith, same, waits))) none;
            entered = λ there. elim (cases_eq (entry_slot list script start k arm) (suc slot)) [
              | inl here ↦
                  next-entered (back_plan_of list script start) (suc turn) k fate
                  (entry-enters (suc turn) (suc slot) k arm now within is here)
              | inr before ↦
                  let sound = armed.entered (omega (arith, there, before)) in
                  sound-fate (next_fate (back_plan_of list script start) (suc turn) k fate)
                  (sound-next (back_plan_of list script start) (suc turn) k fate quiet
                  (false_from_ne_true _ (λ enter.
                  before (entry-same k arm is armed.from armed.to unarmed enter)))
                  ∙ and_from _ _ (ap is_sound_fate sound) (ap (λ found. not (strikes found k)) none))
            ];
          })
    ]

  -- All slots.

  first-standing : (k : ℕ) → start.slot < script.slots → k < length list.slots → is_ever_on script k ≡ true
      → Standing list script start start.slot k (fate_of (back_plan_of list script start) 0 k)
  first-standing k within less ever =
      let plan = back_plan_of list script start in
      let some : 0 < two_rounds list = omega (arith, run.course.valid.count) in
      let early : faulty_since (slots_before list script start (suc start.slot)) ≡ [] =
      none-early (faulty_since (slots_before list script start (suc start.slot)))
      (late-after (suc start.slot) within) in
      Clear (ap (λ fs. has_node (numbers_of fs) k) early) (sound-fate (fate_of plan 0 k)
      (sound-next plan 0 k (fate_at_begin plan k) (none-armed-first k)
      (false_from_ne_true _ (λ enter.
      let by = entry-by 0 start.slot k (omega arith) within enter in
      let late = arm-late by.is in
      omega (arith, late, by.from, some)))
      ∙ and_from _ _
      (begins (has_node plan.begin k) (has_node-sieve (is_ever_on script) (length list.slots) k less ∙ ever))
      (not_from_false _ (strikes-slot run.course 0 start.slot k (omega arith) within
      ∙ ap (λ ks. has_node ks k) (made-early run.course start.slot within (omega (arith, some)))))))
    where
      begins : (b : Bool) → b ≡ true → is_sound_fate (cond b Sound Absent) ≡ true
      begins true is = refl
      begins false is = is

      none-early : (fs : List FaultyNode) → AllByRecursion (IsDated list start (suc start.slot)) fs → fs ≡ []
      none-early [] each = refl
      none-early (f ∷ fs) each = absurd (omega (arith, each.0.0, each.0.1, run.course.valid.count))

  pub standing : (turn slot k : ℕ) → slot ≡ start.slot + turn → slot < script.slots → k < length list.slots
      → is_ever_on script k ≡ true → Standing list script start slot k (fate_of (back_plan_of list script start) turn k)
  standing zero slot k now within less ever =
      let same : start.slot ≡ slot = omega arith in
      subst (λ t. Standing list script start t k (fate_of (back_plan_of list script start) 0 k)) same
      (first-standing k (omega arith) less ever)
  standing (suc turn) zero k now within less ever = absurd (omega arith)
  standing (suc turn) (suc slot) k now within less ever =
      step (standing turn slot k (omega arith) (omega arith) less ever)
    where
      step : Standing list script start slot k (fate_of (back_plan_of list script start) turn k)
          → Standing list script start (suc slot) k (fate_of (back_plan_of list script start) (suc turn) k)
      step (Clear none sound) =
          clear-next turn slot now within k (fate_of (back_plan_of list script start) turn k) none sound
      step (LostSince since lost) =
          lost-next turn slot now within k since (fate_of (back_plan_of list script start) turn k) lost
      step (ArmedSince arm armed) =
          armed-next turn slot now within k arm (fate_of (back_plan_of list script start) turn k) armed

  -- a node that is not faulty after a slot is sound
  pub clear-sound : (turn slot k : ℕ) → slot ≡ start.slot + turn → slot < script.slots → k < length list.slots
      → is_ever_on script k ≡ true → has_node (after list script start slot) k ≡ false
      → is_sound_after (back_plan_of list script start) turn k ≡ true
  clear-sound turn slot k now within less ever none = by (standing turn slot k now within less ever)
    where
      by : Standing list script start slot k (fate_of (back_plan_of list script start) turn k)
          → is_sound_after (back_plan_of list script start) turn k ≡ true
      by (Clear out sound) = ap is_sound_fate sound
      by (LostSince since lost) = absurd (both_ways _ none lost.has)
      by (ArmedSince arm armed) = absurd (both_ways _ none (armed-after run armed.is slot armed.from armed.to))
