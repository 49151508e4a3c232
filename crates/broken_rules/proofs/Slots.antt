-- What breaks a rule names the slot that the rule names.
use Rattle.std.proofs.Common.{◌≡◌, ℕ, ◌+◌, min, ℤ, Bool, true, false, cond, not}
use Rattle.std.proofs.Common.{◌&&◌, ◌||◌, List, [], ◌∷◌, refl, ap, sym}
use Rattle.std.proofs.Common.{◌∙◌, arith, inl, inr, Option, Some, None, is_some, option_map}
use Rattle.std.proofs.lemmas.Bool.{cases_lt, lt-ltb, le-ltb}
use Rattle.std.specs.List.{filter_map, list_all, list_any, find}
use Rattle.std.specs.Prelude.{◌==◌, nat_lt, int_le}
use Rattle.ttp_base.specs.NodeSet.{below}
use Rattle.ttp_world.specs.declared.medl.Medl.{Medl}
use Rattle.ttp_world.specs.declared.script.Event.{Event}
use Rattle.ttp_world.specs.declared.script.Event.TheVariants as event
use Rattle.ttp_world.specs.declared.script.Script.{Script}
use Rattle.ttp_world.specs.Hypothesis.{ClusterStart, nodes_of, clocks_broken, drifts_hold}
use Rattle.ttp_world.specs.Hypothesis.{errors_hold_in, is_within_bound}
use Rattle.ttp_world.specs.Hypothesis.{is_far_jump, is_jump_before, lesser, least_of, outside_slot}
use Rattle.ttp_world.specs.Hypothesis.{outside_broken, start_of, needed}
use Rattle.ttp_world.specs.Returning.{disturbed_slot, disturbance_broken, is_arm, has_arm, needed_back}
use Rattle.ttp_world.specs.Script.{reading_error, jump_of}
use Rattle.broken_rules.proofs.FromBelow.{found-passes}
use Rattle.broken_rules.specs.declared.jumps.Disturbed.{Disturbed}
use Rattle.broken_rules.specs.declared.clocks.PastBound.TheVariants as past
use Rattle.broken_rules.specs.Clocks.{past_bound_in, past_bound, past_slot}
use Rattle.broken_rules.specs.Conditions.{narrow_by, window_named, window_slot}
use Rattle.broken_rules.specs.Jumps.{jump_slot, first_jump, short_jump, jump_since, disturbed_by, disturbed_at}
use Rattle.broken_rules.specs.Jumps.{earlier, disturbed_from, first_disturbed}
use Rattle.broken_rules.specs.Start.{no_start_by, no_start}

-- Clocks.

one-step : (p : ℕ → Bool) (x : ℕ) (xs : List ℕ) (b : Bool) → p x ≡ b
    → (not (list_all p xs) ≡ true → is_some (find (λ k. not (p k)) xs) ≡ true) → not (list_all p (x ∷ xs)) ≡ true
    → is_some (find (λ k. not (p k)) (x ∷ xs)) ≡ true
one-step p x xs true is later fails = rw is (later (rw is at fails))
one-step p x xs false is later fails = rw is refl

-- where not all pass, one is found that does not
one-found : (p : ℕ → Bool) (xs : List ℕ) → not (list_all p xs) ≡ true → is_some (find (λ k. not (p k)) xs) ≡ true
one-found p [] fails = absurd (grind arith)
one-found p (x ∷ xs) fails = one-step p x xs (p x) refl (one-found p xs) fails

named : (list : Medl) (script : Script) (slot : ℕ) (found : Option ℕ) → is_some found ≡ true
    → option_map past_slot (option_map (λ k. past.Errors slot k (reading_error script k slot)) found) ≡ Some slot
named list script slot None some = absurd (grind arith)
named list script slot (Some k) some = refl

clocks-by : (list : Medl) (script : Script) (slot : ℕ) (holds : Bool) → drifts_hold list script ≡ holds
    → cond holds (find (λ slot. not (errors_hold_in list script slot)) (below script.slots)) (Some 0) ≡ Some slot
    → option_map past_slot (past_bound_in list script (Some slot)) ≡ Some slot
clocks-by list script slot true is found =
    let fails : not (errors_hold_in list script slot) ≡ true =
    found-passes (λ slot. not (errors_hold_in list script slot)) slot (below script.slots) found in
    rw is (named list script slot
    (find (λ k. not (is_within_bound list.error (reading_error script k slot))) (nodes_of list))
    (one-found (λ k. is_within_bound list.error (reading_error script k slot)) (nodes_of list) fails))
clocks-by list script slot false is found = rw is found

clocks-in : (list : Medl) (script : Script) (found : Option ℕ) → clocks_broken list script ≡ found
    → option_map past_slot (past_bound_in list script found) ≡ found
clocks-in list script None is = refl
clocks-in list script (Some slot) is = clocks-by list script slot (drifts_hold list script) refl is

pub clocks : (list : Medl) (script : Script) → option_map past_slot (past_bound list script) ≡ clocks_broken list script
clocks list script = clocks-in list script (clocks_broken list script) refl

-- The window.

narrow : (due : ℤ) (wide : Bool) → window_named (cond wide None (Some due)) ≡ cond wide None (Some 0)
narrow due true = refl
narrow due false = refl

pub window : (list : Medl) (armed : Bool) → window_named (narrow_by list armed) ≡ window_slot list armed
window list false = narrow (needed list) (int_le (needed list) list.window)
window list true = narrow (needed_back list) (int_le (needed_back list) list.window)

-- Jumps.

-- a slot that may be there lies before another
abbrev is_before : ℕ → Option ℕ → Bool
is_before slot None = false
is_before slot (Some n) = nat_lt n slot

before-lesser : (n slot : ℕ) (least : Option ℕ)
    → (nat_lt n slot || is_before slot least) ≡ is_before slot (lesser n least)
before-lesser n slot None = none (nat_lt n slot)
  where
    none : (b : Bool) → (b || false) ≡ b
    none true = refl
    none false = refl
before-lesser n slot (Some m) = elim (cases_lt n slot) [
  | inl less ↦ rw (lt-ltb n slot less) (sym (lt-ltb (min n m) slot (omega arith)))
  | inr from ↦ rw (le-ltb n slot from) (elim (cases_lt m slot) [
    | inl less ↦ lt-ltb m slot less ∙ sym (lt-ltb (min n m) slot (omega arith))
    | inr from' ↦ le-ltb m slot from' ∙ sym (le-ltb (min n m) slot (omega arith))
  ])
]

jumped-step : (k slot at : ℕ) (events : List Event) (is : Bool)
    → list_any (is_jump_before k slot) events ≡ is_before slot (least_of (filter_map (jump_slot k) events))
    → (e : Event) → is_jump_before k slot e ≡ (is && nat_lt at slot) → jump_slot k e ≡ cond is (Some at) None
    → list_any (is_jump_before k slot) (e ∷ events) ≡ is_before slot (least_of (filter_map (jump_slot k) (e ∷ events)))
jumped-step k slot at events true later e before jumps =
    rw (before, jumps) (ap (λ b. nat_lt at slot || b) later
    ∙ before-lesser at slot (least_of (filter_map (jump_slot k) events)))
jumped-step k slot at events false later e before jumps = rw (before, jumps) later

-- a node has jumped before the slots behind its first jump
jumped : (k slot : ℕ) (events : List Event)
    → list_any (is_jump_before k slot) events ≡ is_before slot (least_of (filter_map (jump_slot k) events))
jumped k slot [] = refl
jumped k slot (event.Jump node value at ∷ events) =
    jumped-step k slot at events (node == k) (jumped k slot events) (event.Jump node value at) refl refl
jumped k slot (event.Send node channels f from to ∷ events) = jumped k slot events
jumped k slot (event.Receive node channels f from to ∷ events) = jumped k slot events
jumped k slot (event.Flip node channels bit at ∷ events) = jumped k slot events
jumped k slot (event.Error node value from to ∷ events) = jumped k slot events
jumped k slot (event.Arm node at ∷ events) = jumped k slot events
jumped k slot (event.Write node at payload ∷ events) = jumped k slot events
jumped k slot (event.Read node at from ∷ events) = jumped k slot events

short-slot : (list : Medl) (script : Script) (k slot place : ℕ) (far : Bool)
    → is_far_jump list (jump_of script k slot) ≡ far
    → option_map (λ (d : Disturbed). d.slot) (option_map (disturbed_by slot place) (short_jump list script k slot))
    ≡ cond far None (Some slot)
short-slot list script k slot place true is = rw is refl
short-slot list script k slot place false is = rw is refl

since-by : (list : Medl) (script : Script) (k slot place first : ℕ) (far again : Bool)
    → is_far_jump list (jump_of script k slot) ≡ far → nat_lt first slot ≡ again
    → option_map (λ (d : Disturbed). d.slot)
    (option_map (disturbed_by slot place) (jump_since list script k slot (Some first)))
    ≡ cond (far && not again) None (Some slot)
since-by list script k slot place first true true is before = rw before refl
since-by list script k slot place first false true is before = rw before refl
since-by list script k slot place first true false is before =
    rw before (short-slot list script k slot place true is)
since-by list script k slot place first false false is before =
    rw before (short-slot list script k slot place false is)

since : (list : Medl) (script : Script) (k slot place : ℕ) (first : Option ℕ)
    → option_map (λ (d : Disturbed). d.slot)
    (option_map (disturbed_by slot place) (jump_since list script k slot first))
    ≡ cond (is_far_jump list (jump_of script k slot) && not (is_before slot first)) None (Some slot)
since list script k slot place None =
    short-slot list script k slot place (is_far_jump list (jump_of script k slot)) refl
    ∙ ap (λ b. cond b None (Some slot)) (sym (all (is_far_jump list (jump_of script k slot))))
  where
    all : (b : Bool) → (b && true) ≡ b
    all true = refl
    all false = refl
since list script k slot place (Some first) =
    since-by list script k slot place first (is_far_jump list (jump_of script k slot)) (nat_lt first slot) refl refl

slot-at : (list : Medl) (script : Script) (place : ℕ) (e : Event)
    → option_map (λ (d : Disturbed). d.slot) (disturbed_at list script place e) ≡ disturbed_slot list script e
slot-at list script place (event.Flip node channels bit slot) = refl
slot-at list script place (event.Jump node value slot) =
    since list script node slot place (first_jump script node)
    ∙ ap (λ b. cond (is_far_jump list (jump_of script node slot) && not b) None (Some slot))
    (sym (jumped node slot script.events))
slot-at list script place (event.Send node channels f from to) = refl
slot-at list script place e = refl

earlier-slot : (d : Disturbed) (later : Option Disturbed)
    → Some (earlier d later).slot ≡ lesser d.slot (option_map (λ (d : Disturbed). d.slot) later)
earlier-slot d None = refl
earlier-slot d (Some l) = elim (cases_lt l.slot d.slot) [
  | inl less ↦ rw (lt-ltb l.slot d.slot less) (ap Some (omega arith))
  | inr from ↦ rw (le-ltb l.slot d.slot from) (ap Some (omega arith))
]

slots-step : (list : Medl) (script : Script) (place : ℕ) (e : Event) (events : List Event) (found : Option Disturbed)
    → disturbed_at list script place e ≡ found
    → disturbed_slot list script e ≡ option_map (λ (d : Disturbed). d.slot) found
    → option_map (λ (d : Disturbed). d.slot) (disturbed_from list script (place + 1) events)
    ≡ least_of (filter_map (disturbed_slot list script) events)
    → option_map (λ (d : Disturbed). d.slot) (disturbed_from list script place (e ∷ events))
    ≡ least_of (filter_map (disturbed_slot list script) (e ∷ events))
slots-step list script place e events None is slot later = rw (is, slot) later
slots-step list script place e events (Some d) is slot later =
    rw (is, slot) (earlier-slot d (disturbed_from list script (place + 1) events) ∙ ap (lesser d.slot) later)

slots-from : (list : Medl) (script : Script) (place : ℕ) (events : List Event)
    → option_map (λ (d : Disturbed). d.slot) (disturbed_from list script place events)
    ≡ least_of (filter_map (disturbed_slot list script) events)
slots-from list script place [] = refl
slots-from list script place (e ∷ events) =
    slots-step list script place e events (disturbed_at list script place e) refl (sym (slot-at list script place e))
    (slots-from list script (place + 1) events)

pub disturbed : (list : Medl) (script : Script)
    → option_map (λ (d : Disturbed). d.slot) (first_disturbed list script) ≡ disturbance_broken list script
disturbed list script = slots-from list script 0 script.events

-- Without armed nodes only these stand outside.

outside-by : (list : Medl) (script : Script) (e : Event) (armed : Bool) → is_arm e ≡ armed → armed ≡ false
    → outside_slot list script e ≡ disturbed_slot list script e
outside-by list script (event.Arm node slot) armed is none = absurd (grind arith)
outside-by list script e armed is none = refl

outside-step : (list : Medl) (script : Script) (e : Event) (events : List Event) (armed : Bool) → is_arm e ≡ armed
    → (list_any is_arm events ≡ false
    → filter_map (outside_slot list script) events ≡ filter_map (disturbed_slot list script) events)
    → list_any is_arm (e ∷ events) ≡ false
    → filter_map (outside_slot list script) (e ∷ events) ≡ filter_map (disturbed_slot list script) (e ∷ events)
outside-step list script e events true is later none = absurd (grind arith)
outside-step list script e events false is later none =
    rw (outside-by list script e false is refl, later (rw is at none)) refl

outside-all : (list : Medl) (script : Script) (events : List Event) → list_any is_arm events ≡ false
    → filter_map (outside_slot list script) events ≡ filter_map (disturbed_slot list script) events
outside-all list script [] none = refl
outside-all list script (e ∷ events) none =
    outside-step list script e events (is_arm e) refl (outside-all list script events) none

pub outside : (list : Medl) (script : Script) → has_arm script ≡ false
    → option_map (λ (d : Disturbed). d.slot) (first_disturbed list script) ≡ outside_broken list script
outside list script none =
    disturbed list script ∙ ap least_of (sym (outside-all list script script.events none))

-- The start.

start-by : (list : Medl) (script : Script) (start : Option ClusterStart)
    → is_some (no_start_by list script start) ≡ not (is_some start)
start-by list script None = refl
start-by list script (Some start) = refl

pub start : (list : Medl) (script : Script) → is_some (no_start list script) ≡ not (is_some (start_of list script))
start list script = start-by list script (start_of list script)
