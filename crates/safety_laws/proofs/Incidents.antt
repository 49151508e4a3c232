-- The incidents of a plan of a run's faults: each slot's is the node that it makes faulty.
use Rattle.safety_laws.proofs.PlanWords.{◌≡◌, ◌≢◌, ℕ, zero, suc, ◌+◌, ◌-◌, ◌<◌, ◌≤◌}
use Rattle.safety_laws.proofs.PlanWords.{Bool, true, false, cond, List, [], ◌∷◌}
use Rattle.safety_laws.proofs.PlanWords.{map, Option, Some, None, refl, ap, sym, ◌∙◌, inl, inr, arith, subst, ◌++◌, ◌⊎◌}
use Rattle.safety_laws.proofs.PlanWords.{◌==◌, AllByRecursion, cases_eq, eq-eqb, eqb-true, ne_eqb, none-some, same_Some}
use Rattle.safety_laws.proofs.PlanWords.{eq-or-lt_of_le, has_node, Medl, Script, ClusterStart, FaultyNode, Incident}
use Rattle.safety_laws.proofs.PlanWords.{planned_incident, two_rounds}
use Rattle.std.specs.Prelude.{find}
use Rattle.std.specs.Option.{option_or}
use Rattle.std.proofs.lemmas.List.{map-append}
use Rattle.std.proofs.lemmas.List.Folds.{find-append}
use Rattle.safety_laws.specs.Plan.{is_in_slot}
use Rattle.safety_laws.proofs.Spaced.{IsSpaced, all_in, IsOneMade, one-made, spaced-later}
use Rattle.safety_laws.proofs.Courses.{IsCourse, made_of}
use Rattle.safety_laws.proofs.FateSteps.{strikes}
use Rattle.safety_laws.proofs.Tests.{never-found, or-false}

abbrev pub planned_incidents : Medl → Script → ClusterStart → List FaultyNode → List Incident
planned_incidents list script start faulty = map (planned_incident list script start) faulty

-- the incident of a slot among those of some faulty nodes
abbrev pub incident_among : Medl → Script → ClusterStart → ℕ → List FaultyNode → Option Incident
incident_among list script start slot faulty = find (is_in_slot slot) (planned_incidents list script start faulty)

-- A node of a list whose incident is found in a slot.

pub record IsFound (P : FaultyNode → Type 0) (list : Medl) (script : Script) (start : ClusterStart) (slot : ℕ)
    (incident : Incident) (f : FaultyNode) : Type 0 where
  pub is : incident ≡ planned_incident list script start f
  pub at : f.slot - start.slot ≡ slot
  pub holds : P f

found-step : (P : FaultyNode → Type 0) (list : Medl) (script : Script) (start : ClusterStart) (slot : ℕ)
    (incident : Incident) (f : FaultyNode) (rest : Option Incident) (b : Bool) → (f.slot - start.slot == slot) ≡ b → P f
    → (rest ≡ Some incident → (g : FaultyNode) × IsFound P list script start slot incident g)
    → cond b (Some (planned_incident list script start f)) rest ≡ Some incident
    → (g : FaultyNode) × IsFound P list script start slot incident g
found-step P list script start slot incident f rest true same holds later is = (
  f,
  record {
    is = sym (same_Some _ _ is);
    at = eqb-true _ _ same;
    holds = holds;
  },
)
found-step P list script start slot incident f rest false other holds later is = later is

pub found-tells : (P : FaultyNode → Type 0) (list : Medl) (script : Script) (start : ClusterStart) (slot : ℕ)
    (incident : Incident) (faulty : List FaultyNode) → AllByRecursion P faulty
    → incident_among list script start slot faulty ≡ Some incident
    → (g : FaultyNode) × IsFound P list script start slot incident g
found-tells P list script start slot incident [] each is = absurd (none-some _ is)
found-tells P list script start slot incident (f ∷ faulty) each is =
    found-step P list script start slot incident f
    (incident_among list script start slot faulty) (f.slot - start.slot == slot) refl each.0
    (λ later. found-tells P list script start slot incident faulty each.1 later) is

-- Incidents lie apart.

spaced-late : (gap earliest : ℕ) (faulty : List FaultyNode) → IsSpaced gap earliest faulty
    → AllByRecursion (λ f. earliest ≤ f.slot) faulty
spaced-late gap earliest [] spaced = tt
spaced-late gap earliest (f ∷ faulty) spaced = (spaced.0, spaced-late gap earliest faulty spaced.2)

both-each : {X : Type 0} (P Q : X → Type 0) (xs : List X) → AllByRecursion P xs → AllByRecursion Q xs
    → AllByRecursion (λ x. P x × Q x) xs
both-each P Q [] all some = tt
both-each P Q (x ∷ xs) all some = ((all.0, some.0), both-each P Q xs all.1 some.1)

pub late-found : (list : Medl) (script : Script) (start : ClusterStart) (gap slot : ℕ) (incident : Incident)
    (faulty : List FaultyNode) → IsSpaced gap (start.slot + gap) faulty
    → incident_among list script start slot faulty ≡ Some incident
    → gap ≤ slot
late-found list script start gap slot incident faulty spaced is =
    let found =
    found-tells (λ f. start.slot + gap ≤ f.slot) list script start slot incident faulty
    (spaced-late gap (start.slot + gap) faulty spaced) is in
    omega (arith, found.1.at, found.1.holds)

passed : (slot turn : ℕ) (incident : Incident) (rest : Option Incident) → turn ≢ slot
    → cond (turn == slot) (Some incident) rest ≡ rest
passed slot turn incident rest other = let off : (turn == slot) ≡ false = ne_eqb _ _ other in rw off

pub apart-found : (list : Medl) (script : Script) (start : ClusterStart) (gap slot later : ℕ) (first second : Incident)
    (faulty : List FaultyNode) → IsSpaced gap (start.slot + gap) faulty → slot < later
    → incident_among list script start slot faulty ≡ Some first
    → incident_among list script start later faulty ≡ Some second
    → slot + gap ≤ later
apart-found list script start gap slot later first second [] spaced less is also = absurd (none-some _ is)
apart-found list script start gap slot later first second (f ∷ faulty) spaced less is also =
    let turn = f.slot - start.slot in
    let here = planned_incident list script start f in
    let late = spaced-late gap (start.slot + gap) faulty spaced.2 in
    let Older : FaultyNode → Type 0 = λ g. (g.slot + gap ≤ f.slot) × (start.slot + gap ≤ g.slot) in
    let older =
    both-each (λ (g : FaultyNode). g.slot + gap ≤ f.slot) (λ g. start.slot + gap ≤ g.slot) faulty spaced.1 late in
    elim (cases_eq (f.slot - start.slot) later) [
      | inl same ↦
          let rest : incident_among list script start slot faulty ≡ Some first =
          sym (passed slot turn here (incident_among list script start slot faulty) (λ at. omega arith)) ∙ is in
          let found = found-tells Older list script start slot first faulty older rest in
          omega (arith, found.1.at, found.1.holds.0, found.1.holds.1)
      | inr other ↦
          let after : incident_among list script start later faulty ≡ Some second =
          sym (passed later turn here (incident_among list script start later faulty) other) ∙ also in
          elim (cases_eq (f.slot - start.slot) slot) [
            | inl same ↦
                let found = found-tells Older list script start later second faulty older after in
                absurd (omega (arith, found.1.at, found.1.holds.0, found.1.holds.1))
            | inr off ↦
                apart-found list script start gap slot later first second faulty spaced.2 less
                (sym (passed slot turn here (incident_among list script start slot faulty) off) ∙ is) after
          ]
    ]

-- The incident of a slot is that of the node that the slot makes faulty.

abbrev pub incident_made : Medl → Script → ClusterStart → ℕ → List ℕ → Option Incident
incident_made list script start slot [] = None
incident_made list script start slot (k ∷ ks) =
    Some (planned_incident list script start (record { slot = slot; node = k }))

pub none-slot : (list : Medl) (script : Script) (start : ClusterStart) (turn slot : ℕ) (made : List ℕ)
    → slot - start.slot ≢ turn → incident_among list script start turn (all_in slot made) ≡ None
none-slot list script start turn slot [] other = refl
none-slot list script start turn slot (k ∷ made) other =
    passed turn (slot - start.slot) (planned_incident list script start (record { slot = slot; node = k }))
    (incident_among list script start turn (all_in slot made)) other ∙ none-slot list script start turn slot made other

pub some-slot : (list : Medl) (script : Script) (start : ClusterStart) (turn slot : ℕ) (made : List ℕ)
    → slot - start.slot ≡ turn
    → incident_among list script start turn (all_in slot made) ≡ incident_made list script start slot made
some-slot list script start turn slot [] same = refl
some-slot list script start turn slot (k ∷ made) same =
    let here : (slot - start.slot == turn) ≡ true = eq-eqb _ _ same in
    rw here

pub or-none : (found : Option Incident) → option_or found None ≡ found
or-none None = refl
or-none (Some incident) = refl

-- Of the run.

module _ {list : Medl} {script : Script} {start : ClusterStart} {at : ℕ → List ℕ} {all : ℕ → List FaultyNode}
    (course : IsCourse list script start at all) where
  abbrev made : ℕ → List ℕ
  made slot = made_of list script start (at slot) slot

  abbrev AreSpaced : List FaultyNode → Type 0
  AreSpaced faulty = IsSpaced (two_rounds list) (start.slot + two_rounds list) faulty

  -- those of the first slots of the run are spaced too
  spaced-before : (slot last : ℕ) → slot ≤ last → AreSpaced (all last) → AreSpaced (all slot)
  spaced-before slot zero within spaced =
      let none : zero ≡ slot = omega arith in
      subst (λ t. AreSpaced (all t)) none spaced
  spaced-before slot (suc last) within spaced = elim (eq-or-lt_of_le within) [
    | inl same ↦ subst (λ t. AreSpaced (all t)) (sym same) spaced
    | inr less ↦
        spaced-before slot last (omega arith) (spaced-later (two_rounds list) (start.slot + two_rounds list)
        (all_in last (made last)) (all last) (subst AreSpaced (course.next last) spaced))
  ]

  -- what a slot makes faulty
  pub makes-slot : (slot : ℕ) → slot < script.slots → (made_of list script start (at slot) slot ≡ [])
      ⊎ ((k : ℕ) × IsOneMade (two_rounds list) (start.slot + two_rounds list) slot k
      (made_of list script start (at slot) slot) (all slot))
  makes-slot slot within =
      one-made (two_rounds list) (start.slot + two_rounds list) slot (made slot) (all slot)
      (omega (arith, course.valid.count))
      (subst AreSpaced (course.next slot) (spaced-before (suc slot) script.slots within course.spaced))

  pub made-early : (slot : ℕ) → slot < script.slots → slot < start.slot + two_rounds list
      → made_of list script start (at slot) slot ≡ []
  made-early slot within early = elim (makes-slot slot within) [
    | inl none ↦ none
    | inr one ↦ absurd (omega (arith, one.1.late))
  ]

  pub all-early : (slot : ℕ) → slot ≤ script.slots → slot ≤ start.slot + two_rounds list → all slot ≡ []
  all-early zero within early = course.none
  all-early (suc slot) within early =
      let before : all slot ≡ [] = all-early slot (omega arith) (omega arith) in
      course.next slot ∙ (λ i. all_in slot (made-early slot within early i) ++ before i)

  -- The incident of a slot.

  found-next : (turn slot : ℕ) → incident_among list script start turn (all (suc slot))
      ≡ option_or (incident_among list script start turn (all_in slot (made slot)))
      (incident_among list script start turn (all slot))
  found-next turn slot =
      ap (incident_among list script start turn) (course.next slot)
      ∙ ap (find (is_in_slot turn)) (map-append (planned_incident list script start) (all_in slot (made slot))
      (all slot))
      ∙ find-append (is_in_slot turn) (planned_incidents list script start (all_in slot (made slot)))
      (planned_incidents list script start (all slot))

  none-before : (turn slot : ℕ) → 0 < turn → slot ≤ start.slot + turn
      → incident_among list script start turn (all slot) ≡ None
  none-before turn zero later within = ap (incident_among list script start turn) course.none
  none-before turn (suc slot) later within =
      found-next turn slot ∙ (λ i. option_or (none-slot list script start turn slot (made slot) (λ same. omega arith) i)
      (none-before turn slot later (omega arith) i))

  some-before : (turn slot last : ℕ) → 0 < turn → slot ≡ start.slot + turn → slot < last
      → incident_among list script start turn (all last) ≡ incident_made list script start slot (made slot)
  some-before turn slot zero later is within = absurd (omega arith)
  some-before turn slot (suc last) later is within = found-next turn last ∙ elim (cases_eq last slot) [
    | inl same ↦
        (λ i. option_or (some-slot list script start turn last (made last) (omega arith) i)
        (none-before turn last later (omega arith) i))
        ∙ or-none (incident_made list script start last (made last))
        ∙ ap (λ t. incident_made list script start t (made t)) same
    | inr other ↦
        ap (λ found. option_or found (incident_among list script start turn (all last)))
        (none-slot list script start turn last (made last) (λ same. omega arith))
        ∙ some-before turn slot last later is (omega arith)
  ]

  pub incident-slot : (turn slot : ℕ) → slot ≡ start.slot + turn → slot < script.slots
      → incident_among list script start turn (all script.slots)
      ≡ incident_made list script start slot (made_of list script start (at slot) slot)
  incident-slot zero slot is within =
      let some : 0 < two_rounds list = omega (arith, course.valid.count) in
      never-found (incident_among list script start 0 (all script.slots)) (λ incident found.
      let late = late-found list script start (two_rounds list) 0 incident (all script.slots) course.spaced found in
      omega (arith, some, late))
      ∙ ap (incident_made list script start slot) (sym (made-early slot within (omega (arith, some))))
  incident-slot (suc turn) slot is within = some-before (suc turn) slot script.slots (omega arith) is within

  -- Whom it strikes.

  pub strikes-slot : (turn slot k : ℕ) → slot ≡ start.slot + turn → slot < script.slots
      → strikes (incident_among list script start turn (all script.slots)) k
      ≡ has_node (made_of list script start (at slot) slot) k
  strikes-slot turn slot k is within =
      ap (λ found. strikes found k) (incident-slot turn slot is within) ∙ by (makes-slot slot within)
    where
      Strikes : List ℕ → Type 0
      Strikes = λ ks. strikes (incident_made list script start slot ks) k ≡ has_node ks k

      by : (made slot ≡ []) ⊎ ((k : ℕ)
          × IsOneMade (two_rounds list) (start.slot + two_rounds list) slot k (made slot) (all slot))
          → strikes (incident_made list script start slot (made slot)) k ≡ has_node (made slot) k
      by (inl none) = subst Strikes (sym none) refl
      by (inr one) = subst Strikes (sym one.1.only) (or-false (one.0 == k))

  -- Those that became faulty in the first slots did so in them.

  within-all : (last slot : ℕ) → slot ≤ last → AllByRecursion (λ f. f.slot < last) (all slot)
  within-all last zero within = subst (AllByRecursion (λ f. f.slot < last)) (sym course.none) tt
  within-all last (suc slot) within =
      subst (AllByRecursion (λ f. f.slot < last)) (sym (course.next slot))
      (added (made slot) (within-all last slot (omega arith)))
    where
      added : (ks : List ℕ) → AllByRecursion (λ f. f.slot < last) (all slot)
          → AllByRecursion (λ f. f.slot < last) (all_in slot ks ++ all slot)
      added [] older = older
      added (k ∷ ks) older = (omega arith, added ks older)

  -- so an incident lies in the run
  pub found-within : (turn : ℕ) (incident : Incident)
      → incident_among list script start turn (all script.slots) ≡ Some incident → start.slot + turn < script.slots
  found-within turn incident found =
      let late = late-found list script start (two_rounds list) turn incident (all script.slots) course.spaced found in
      let tells = found-tells (λ f. f.slot < script.slots) list script start turn incident (all script.slots)
      (within-all script.slots script.slots (omega arith)) found in
      omega (arith, tells.1.at, tells.1.holds, late, course.valid.count)
