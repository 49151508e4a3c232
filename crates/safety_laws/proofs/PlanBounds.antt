-- Clocks and bits of a script that keeps the rules on them.
use Rattle.safety_laws.proofs.PlanWords.{◌≡◌, ℕ, ◌<◌, Bool, true, false, cond, not, List, [], ◌∷◌, length, Option, Some}
use Rattle.safety_laws.proofs.PlanWords.{None, inl, inr, refl, sym, arith, is_some, AllByRecursion, list_any, not-false}
use Rattle.safety_laws.proofs.PlanWords.{and_parts, false_from_ne_true, both_ways, or_cases, not-true, none-some, below}
use Rattle.safety_laws.proofs.PlanWords.{Medl, Channel, Script, clocks_broken, window_broken, outside_broken, has_jump}
use Rattle.safety_laws.proofs.PlanWords.{flipped_bits, IsWithinBounds}
use Rattle.std.proofs.Common.{◌≤ℤ◌}
use Rattle.std.specs.Prelude.{int_le, find}
use Rattle.std.specs.List.{filter_map}
use Rattle.std.proofs.lemmas.Bool.{or_left, or_right}
use Rattle.ttp_base.proofs.Below.{each-below}
use Rattle.ttp_world.specs.declared.script.Event.{Event}
use Rattle.ttp_world.specs.declared.script.Event.TheVariants as event
use Rattle.ttp_world.specs.Hypothesis.{drifts_hold, errors_hold_in, needed, outside_slot}
use Rattle.ttp_world.specs.Hypothesis.{is_allowed_jump, is_within_bound}
use Rattle.ttp_world.specs.Hypothesis.{is_jump_before}
use Rattle.ttp_world.specs.Script.{arms, is_armed, flipped_bit, jump_in, drift_of, reading_error}
use Rattle.ttp_world.proofs.Jumps.{each-none, allowed-jump, no_jump-sum}
use Rattle.safety_laws.proofs.Sieves.{none-found}
use Rattle.ttp_world.proofs.SmallTests.{le_of_test}

-- Clocks.

pub both-hold : (drifts : Bool) (found : Option ℕ) → cond drifts found (Some 0) ≡ None
    → (drifts ≡ true) × (found ≡ None)
both-hold true found none = (refl, none)
both-hold false found none = absurd (none-some 0 (sym none))

pub wide : (fits : Bool) → cond {A = Option ℕ} fits None (Some 0) ≡ None → fits ≡ true
wide true none = refl
wide false none = absurd (none-some 0 (sym none))

-- Events.

flip-none : (list : Medl) (script : Script) (k slot : ℕ) (c : Channel) (e : Event) → outside_slot list script e ≡ None
    → flipped_bit k c slot e ≡ None
flip-none list script k slot c (event.Flip node channels bit at) none = absurd (none-some at (sym none))
flip-none list script k slot c _ none = refl

arm-none : (list : Medl) (script : Script) (k slot : ℕ) (e : Event) → outside_slot list script e ≡ None
    → arms k slot e ≡ false
arm-none list script k slot (event.Arm node at) none = absurd (none-some at (sym none))
arm-none list script k slot _ none = refl

no_flips : (list : Medl) (script : Script) (k slot : ℕ) (c : Channel) (events : List Event)
    → AllByRecursion (λ e. outside_slot list script e ≡ None) events → filter_map (flipped_bit k c slot) events ≡ []
no_flips list script k slot c [] inside = refl
no_flips list script k slot c (e ∷ events) inside =
    let here : flipped_bit k c slot e ≡ None = flip-none list script k slot c e inside.0 in
    rw here (no_flips list script k slot c events inside.1)

no_arms : (list : Medl) (script : Script) (k slot : ℕ) (events : List Event)
    → AllByRecursion (λ e. outside_slot list script e ≡ None) events → list_any (arms k slot) events ≡ false
no_arms list script k slot [] inside = refl
no_arms list script k slot (e ∷ events) inside =
    let here : arms k slot e ≡ false = arm-none list script k slot e inside.0 in
    rw here (no_arms list script k slot events inside.1)

-- Jumps.

-- a jump is one before each later slot
before : (k slot later : ℕ) (e : Event) → slot < later → is_some (jump_in k slot e) ≡ true
    → is_jump_before k later e ≡ true
before k slot later e less here = grind arith

has_before : (k slot later : ℕ) (events : List Event) → slot < later
    → list_any (λ e. is_some (jump_in k slot e)) events ≡ true → list_any (is_jump_before k later) events ≡ true
has_before k slot later [] less has = absurd (both_ways _ refl has)
has_before k slot later (e ∷ events) less has =
    elim (or_cases _ _ has) [
      | inl here ↦ or_left _ _ (before k slot later e less here)
      | inr there ↦ or_right _ _ (has_before k slot later events less there)
    ]

-- All of it.

pub none-armed : (list : Medl) (script : Script) (k slot : ℕ) → outside_broken list script ≡ None
    → is_armed script k slot ≡ false
none-armed list script k slot outside =
    no_arms list script k slot script.events (each-none (outside_slot list script) script.events outside)

pub none-flipped : (list : Medl) (script : Script) (k slot : ℕ) (c : Channel) → outside_broken list script ≡ None
    → flipped_bits script k c slot ≡ []
none-flipped list script k slot c outside =
    no_flips list script k slot c script.events (each-none (outside_slot list script) script.events outside)

-- where drifts, reading errors and jumps keep the rules, and the window is wide enough
pub bounds-of : (list : Medl) (script : Script) → clocks_broken list script ≡ None → needed list ≤ℤ list.window
    → ((k slot : ℕ) → has_jump script k slot ≡ true → is_allowed_jump list script k slot ≡ true)
    → IsWithinBounds list script
bounds-of list script clocks window allowed =
    let held =
    both-hold (drifts_hold list script)
    (find (λ slot. not (errors_hold_in list script slot)) (below script.slots)) clocks in
    record {
      clocks = clocks;
      drifts = λ k less.
          each-below (λ k. is_within_bound list.drift (drift_of script k)) (length list.slots) k held.0 less;
      errors = λ k slot less within.
          each-below (λ k. is_within_bound list.error (reading_error script k slot)) (length list.slots) k
          (not-false _ (none-found (λ slot. not (errors_hold_in list script slot)) 0 script.slots slot held.1
          (omega arith) (omega arith))) less;
      window = window;
      jumps = λ k slot has.
          (and_parts _ _ (allowed k slot has)).0;
      still = λ k slot none. no_jump-sum script k slot none;
      once = λ k slot later less has. false_from_ne_true _ (λ again.
          let first = (and_parts _ _ (allowed k later again)).1 in
          both_ways _ (not-true _ first) (has_before k slot later script.events less has));
    }

pub within-bounds : (list : Medl) (script : Script) → clocks_broken list script ≡ None → window_broken list ≡ None
    → outside_broken list script ≡ None → IsWithinBounds list script
within-bounds list script clocks window outside =
    bounds-of list script clocks (le_of_test (needed list) list.window (wide (int_le (needed list) list.window) window))
    (λ k slot has. allowed-jump list script k slot outside has)
