-- Clocks and bits of a script that keeps the rules on them, where nodes may be armed.
use Rattle.safety_laws.proofs.BackWords.{◌≡◌, ℕ, ◌*◌, ◌≤◌, ℤ, List, [], ◌∷◌, length}
use Rattle.safety_laws.proofs.BackWords.{None, refl, sym, arith, AllByRecursion}
use Rattle.safety_laws.proofs.BackWords.{filter_map, none-some, Medl, Channel, Event, Script, clocks_broken, IsValid}
use Rattle.safety_laws.proofs.BackWords.{back_window_broken, disturbance_broken, flipped_bits, IsWithinBounds}
use Rattle.std.proofs.Common.{pos, negsuc, ◌+ℤ◌, ◌*ℤ◌, ◌≤ℤ◌}
use Rattle.std.proofs.Common.{mul-le-mul_left}
use Rattle.std.specs.Prelude.{int_le}
use Rattle.std.proofs.lemmas.Int.{ints}
use Rattle.ttp_world.specs.Hypothesis.{needed}
use Rattle.ttp_world.specs.Returning.{needed_back, disturbed_slot}
use Rattle.ttp_world.specs.Script.{flipped_bit}
use Rattle.ttp_world.proofs.Jumps.{each-none, undisturbed-jump}
use Rattle.safety_laws.proofs.PlanBounds.{bounds-of, wide}
use Rattle.ttp_world.proofs.SmallTests.{le_of_test}
use Rattle.ttp_world.specs.declared.script.Event.TheVariants as event

-- Events.

flip-none : (list : Medl) (script : Script) (k slot : ℕ) (c : Channel) (e : Event) → disturbed_slot list script e ≡ None
    → flipped_bit k c slot e ≡ None
flip-none list script k slot c (event.Flip node channels bit at) none = absurd (none-some at (sym none))
flip-none list script k slot c _ none = refl

no_flips : (list : Medl) (script : Script) (k slot : ℕ) (c : Channel) (events : List Event)
    → AllByRecursion (λ e. disturbed_slot list script e ≡ None) events → filter_map (flipped_bit k c slot) events ≡ []
no_flips list script k slot c [] inside = refl
no_flips list script k slot c (e ∷ events) inside =
    let here : flipped_bit k c slot e ≡ None = flip-none list script k slot c e inside.0 in
    rw here (no_flips list script k slot c events inside.1)

pub back-flipped : (list : Medl) (script : Script) (k slot : ℕ) (c : Channel) → disturbance_broken list script ≡ None
    → flipped_bits script k c slot ≡ []
back-flipped list script k slot c outside =
    no_flips list script k slot c script.events (each-none (disturbed_slot list script) script.events outside)

-- The window is wide enough for those that did not come back, too.

pub back-window : (list : Medl) → back_window_broken list ≡ None → needed_back list ≤ℤ list.window
back-window list window =
    le_of_test (needed_back list) list.window (wide (int_le (needed_back list) list.window) window)

twice : (a b n : ℕ) (w : ℤ) → ((pos a *ℤ pos (8 * n)) +ℤ ((pos b *ℤ pos 6) +ℤ pos 2)) ≤ℤ w
    → ((pos a *ℤ pos (4 * n)) +ℤ ((pos b *ℤ pos 3) +ℤ pos 1)) ≤ℤ w
twice a b n w fits =
    let few : 4 * n ≤ 8 * n = omega arith in
    omega (arith, ints, fits, mul-le-mul_left a few)

half-enough : (d e w : ℤ) (n : ℕ) → pos 0 ≤ℤ d → pos 0 ≤ℤ e → ((d *ℤ pos (8 * n)) +ℤ ((e *ℤ pos 6) +ℤ pos 2)) ≤ℤ w
    → ((d *ℤ pos (4 * n)) +ℤ ((e *ℤ pos 3) +ℤ pos 1)) ≤ℤ w
half-enough (pos a) (pos b) w n up some fits = twice a b n w fits
half-enough (pos a) (negsuc b) w n up some fits = absurd (omega (arith, ints, some))
half-enough (negsuc a) e w n up some fits = absurd (omega (arith, ints, up))

window-needed : (list : Medl) → IsValid list → needed_back list ≤ℤ list.window → needed list ≤ℤ list.window
window-needed list valid fits =
    half-enough list.drift list.error list.window (length list.slots) valid.drift.0 valid.error.0 fits

-- All of it.

pub back-bounds : (list : Medl) (script : Script) → IsValid list → clocks_broken list script ≡ None
    → back_window_broken list ≡ None → disturbance_broken list script ≡ None → IsWithinBounds list script
back-bounds list script valid clocks window outside =
    bounds-of list script clocks (window-needed list valid (back-window list window))
    (λ k slot has. undisturbed-jump list script k slot outside has)
