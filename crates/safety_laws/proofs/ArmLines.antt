-- The returns of the plan are the arm lines.
use Rattle.safety_laws.proofs.BackWords.{◌≡◌, ℕ, zero, suc, ◌+◌, ◌-◌, Bool, true, false}
use Rattle.safety_laws.proofs.BackWords.{◌&&◌, ◌||◌, List, [], ◌∷◌, refl, ap}
use Rattle.safety_laws.proofs.BackWords.{sym, subst, ◌∙◌, inl, inr, arith, ◌==◌, AllByRecursion}
use Rattle.safety_laws.proofs.BackWords.{Contains, list_any, filter_map}
use Rattle.safety_laws.proofs.BackWords.{and_parts, and_from, eqb-true, eq-eqb, ne_eqb}
use Rattle.safety_laws.proofs.BackWords.{cases_eq, both_ways, Medl, Event, Script}
use Rattle.safety_laws.proofs.BackWords.{ClusterStart, arms, is_armed, Return, is_armed_there, is_armed_by, entry_slot}
use Rattle.safety_laws.proofs.BackWords.{back_plan_of}
use Rattle.safety_laws.specs.BackPlan.{return_of}
use Rattle.ttp_world.specs.declared.script.Event.TheVariants as event

abbrev returns_in : Medl → Script → ClusterStart → List Event → List Return
returns_in list script start events = filter_map (return_of list script start) events

-- Whether a node listens again.

same-slot : (start at turn : ℕ) → (at - start == suc turn) ≡ (at == start + suc turn)
same-slot start at turn = elim (cases_eq at (start + suc turn)) [
  | inl same ↦ eq-eqb _ _ (omega arith) ∙ sym (eq-eqb _ _ same)
  | inr other ↦ ne_eqb _ _ (λ is. other (omega arith)) ∙ sym (ne_eqb _ _ other)
]

swapped : (b c : Bool) → (b && c) ≡ (c && b)
swapped true true = refl
swapped true false = refl
swapped false true = refl
swapped false false = refl

arms-same : (list : Medl) (script : Script) (start : ClusterStart) (turn k : ℕ) (events : List Event)
    → list_any (is_armed_there (suc turn) k) (returns_in list script start events)
    ≡ list_any (arms k (start.slot + suc turn)) events
arms-same list script start turn k [] = refl
arms-same list script start turn k (event.Arm node at ∷ events) =
    (λ i. ((same-slot start.slot at turn i) && (node == k)) || arms-same list script start turn k events i)
    ∙ ap (λ b. b || list_any (arms k (start.slot + suc turn)) events)
    (swapped (at == start.slot + suc turn) (node == k))
arms-same list script start turn k (event.Send node channels f from to ∷ events) =
    arms-same list script start turn k events
arms-same list script start turn k (event.Receive node channels f from to ∷ events) =
    arms-same list script start turn k events
arms-same list script start turn k (event.Flip node channels bit at ∷ events) =
    arms-same list script start turn k events
arms-same list script start turn k (event.Error node value from to ∷ events) = arms-same list script start turn k events
arms-same list script start turn k (event.Jump node value at ∷ events) = arms-same list script start turn k events
arms-same list script start turn k (event.Write node at payload ∷ events) = arms-same list script start turn k events
arms-same list script start turn k (event.Read node at from ∷ events) = arms-same list script start turn k events

pub armed-same : (list : Medl) (script : Script) (start : ClusterStart) (turn k : ℕ)
    → is_armed_by (back_plan_of list script start) (suc turn) k ≡ is_armed script k (start.slot + suc turn)
armed-same list script start turn k = arms-same list script start turn k script.events

-- Each return is that of an arm line.

abbrev pub return_at : Medl → Script → ClusterStart → ℕ → ℕ → Return
return_at list script start k arm = record {
  node = k;
  armed = arm - start.slot;
  entered = entry_slot list script start k arm - start.slot;
}

pub record IsOfLine (list : Medl) (script : Script) (start : ClusterStart) (events : List Event)
    (r : Return) : Type 0 where
  pub arm : ℕ
  pub armed : list_any (arms r.node arm) events ≡ true
  pub is : r ≡ return_at list script start r.node arm

line-later : (list : Medl) (script : Script) (start : ClusterStart) (e : Event) (events : List Event) (r : Return)
    → IsOfLine list script start events r → IsOfLine list script start (e ∷ events) r
line-later list script start e events r of =
    record { arm = of.arm; armed = or-right (arms r.node of.arm e) of.armed; is = of.is }
  where
    or-right : (b : Bool) → list_any (arms r.node of.arm) events ≡ true
        → (b || list_any (arms r.node of.arm) events) ≡ true
    or-right true is = refl
    or-right false is = is

lines-later : (list : Medl) (script : Script) (start : ClusterStart) (e : Event) (events : List Event)
    (rs : List Return)
    → AllByRecursion (IsOfLine list script start events) rs
    → AllByRecursion (IsOfLine list script start (e ∷ events)) rs
lines-later list script start e events [] each = tt
lines-later list script start e events (r ∷ rs) each =
    (line-later list script start e events r each.0, lines-later list script start e events rs each.1)

lines-of : (list : Medl) (script : Script) (start : ClusterStart) (events : List Event)
    → AllByRecursion (IsOfLine list script start events) (returns_in list script start events)
lines-of list script start [] = tt
lines-of list script start (event.Arm node at ∷ events) =
    let here : ((node == node) && (at == at)) ≡ true =
    and_from _ _ (eq-eqb _ _ refl) (eq-eqb at at refl) in (
      record { arm = at; armed = ap (λ b. b || list_any (arms node at) events) here; is = refl },
      lines-later list script start (event.Arm node at) events (returns_in list script start events)
          (lines-of list script start events),
    )
lines-of list script start (event.Send node channels f from to ∷ events) =
    lines-later list script start (event.Send node channels f from to) events (returns_in list script start events)
    (lines-of list script start events)
lines-of list script start (event.Receive node channels f from to ∷ events) =
    lines-later list script start (event.Receive node channels f from to) events (returns_in list script start events)
    (lines-of list script start events)
lines-of list script start (event.Flip node channels bit at ∷ events) =
    lines-later list script start (event.Flip node channels bit at) events (returns_in list script start events)
    (lines-of list script start events)
lines-of list script start (event.Error node value from to ∷ events) =
    lines-later list script start (event.Error node value from to) events (returns_in list script start events)
    (lines-of list script start events)
lines-of list script start (event.Jump node value at ∷ events) =
    lines-later list script start (event.Jump node value at) events (returns_in list script start events)
    (lines-of list script start events)
lines-of list script start (event.Write node at payload ∷ events) =
    lines-later list script start (event.Write node at payload) events (returns_in list script start events)
    (lines-of list script start events)
lines-of list script start (event.Read node at from ∷ events) =
    lines-later list script start (event.Read node at from) events (returns_in list script start events)
    (lines-of list script start events)

pub each-at : {X : Type 0} (P : X → Type 0) (xs : List X) (x : X) → AllByRecursion P xs → Contains xs x → P x
each-at P [] x each among = absurd (omega (arith, among.1))
each-at P (y ∷ xs) x each (zero, within, is) = subst P is each.0
each-at P (y ∷ xs) x each (suc i, within, is) = each-at P xs x each.1 (i, omega arith, is)

pub return-of : (list : Medl) (script : Script) (start : ClusterStart) (r : Return)
    → Contains (back_plan_of list script start).returns r → IsOfLine list script start script.events r
return-of list script start r among =
    each-at (IsOfLine list script start script.events) (returns_in list script start script.events) r
    (lines-of list script start script.events) among

-- and each arm line has its return
line-among : (list : Medl) (script : Script) (start : ClusterStart) (k arm : ℕ) (events : List Event)
    → list_any (arms k arm) events ≡ true
    → Contains (returns_in list script start events) (return_at list script start k arm)
line-among list script start k arm [] has = absurd (both_ways _ refl has)
line-among list script start k arm (event.Arm node at ∷ events) has =
    by ((node == k) && (at == arm)) refl has (line-among list script start k arm events)
  where
    by : (b : Bool) → ((node == k) && (at == arm)) ≡ b → (b || list_any (arms k arm) events) ≡ true
        → (list_any (arms k arm) events ≡ true
        → Contains (returns_in list script start events) (return_at list script start k arm))
        → Contains (return_at list script start node at ∷ returns_in list script start events)
        (return_at list script start k arm)
    by true is found rest =
        let parts = and_parts _ _ is in
        let node_is : node ≡ k = eqb-true _ _ parts.0 in
        let slot_is : at ≡ arm = eqb-true _ _ parts.1 in
        (0, omega arith, λ i. return_at list script start (node_is i) (slot_is i))
    by false is found rest = let older = rest found in (suc older.0, omega (arith, older.1), older.2)
line-among list script start k arm (event.Send node channels f from to ∷ events) has =
    line-among list script start k arm events has
line-among list script start k arm (event.Receive node channels f from to ∷ events) has =
    line-among list script start k arm events has
line-among list script start k arm (event.Flip node channels bit at ∷ events) has =
    line-among list script start k arm events has
line-among list script start k arm (event.Error node value from to ∷ events) has =
    line-among list script start k arm events has
line-among list script start k arm (event.Jump node value at ∷ events) has =
    line-among list script start k arm events has
line-among list script start k arm (event.Write node at payload ∷ events) has =
    line-among list script start k arm events has
line-among list script start k arm (event.Read node at from ∷ events) has =
    line-among list script start k arm events has

pub among-line : (list : Medl) (script : Script) (start : ClusterStart) (k arm : ℕ) → is_armed script k arm ≡ true
    → Contains (back_plan_of list script start).returns (return_at list script start k arm)
among-line list script start k arm armed = line-among list script start k arm script.events armed
