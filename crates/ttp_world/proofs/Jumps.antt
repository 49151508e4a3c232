-- The events of a script that has nothing outside the hypothesis: their jumps are allowed ones, and add up to nothing
-- where there is none.
use Rattle.ttp_world.proofs.Words.{◌≡◌, ℕ, ℤ, pos, true, false, List, [], ◌∷◌, Option, Some, None, inl, inr, refl, sym}
use Rattle.ttp_world.proofs.Words.{arith, is_some, AllByRecursion, list_any, both_ways, none-some, Medl, Event, Script}
use Rattle.ttp_world.proofs.Words.{lesser, least_of}
use Rattle.std.specs.List.{filter_map}
use Rattle.std.proofs.lemmas.Bool.{or_cases}
use Rattle.ttp_world.specs.Hypothesis.{outside_slot, outside_broken, is_allowed_jump}
use Rattle.ttp_world.specs.Returning.{disturbed_slot, disturbance_broken}
use Rattle.ttp_world.specs.Script.{sum_ℤ, jump_in, jump_of, has_jump}

lesser-some : (n : ℕ) (m : Option ℕ) → lesser n m ≡ None → ⊥
lesser-some n None is = none-some n (sym is)
lesser-some n (Some m) is = cc

least-none : {X : Type 0} (f : X → Option ℕ) (x : X) (xs : List X) (found : Option ℕ) → f x ≡ found
    → least_of (filter_map f (x ∷ xs)) ≡ None
    → (f x ≡ None) × (least_of (filter_map f xs) ≡ None)
least-none f x xs None is none = (is, grind arith)
least-none f x xs (Some n) is none = absurd (lesser-some n (least_of (filter_map f xs)) (grind arith))

-- where there is no least value, none has one
pub each-none : {X : Type 0} (f : X → Option ℕ) (xs : List X) → least_of (filter_map f xs) ≡ None
    → AllByRecursion (λ x. f x ≡ None) xs
each-none f [] none = tt
each-none f (x ∷ xs) none =
    let parts = least-none f x xs (f x) refl none in
    (parts.0, each-none f xs parts.1)

all_allowed : (list : Medl) (script : Script) (k slot : ℕ) (f : Event → Option ℕ)
    → ((e : Event) → f e ≡ None → is_some (jump_in k slot e) ≡ true → is_allowed_jump list script k slot ≡ true)
    → (events : List Event) → AllByRecursion (λ e. f e ≡ None) events
    → list_any (λ e. is_some (jump_in k slot e)) events ≡ true → is_allowed_jump list script k slot ≡ true
all_allowed list script k slot f one [] inside has = absurd (both_ways false refl has)
all_allowed list script k slot f one (e ∷ events) inside has =
    elim (or_cases (is_some (jump_in k slot e)) (list_any (λ e. is_some (jump_in k slot e)) events) has) [
      | inl here ↦ one e inside.0 here
      | inr later ↦ all_allowed list script k slot f one events inside.1 later
    ]

inside-allowed : (list : Medl) (script : Script) (k slot : ℕ) (e : Event) → outside_slot list script e ≡ None
    → is_some (jump_in k slot e) ≡ true
    → is_allowed_jump list script k slot ≡ true
inside-allowed list script k slot e none here = grind arith

pub allowed-jump : (list : Medl) (script : Script) (k slot : ℕ) → outside_broken list script ≡ None
    → has_jump script k slot ≡ true
    → is_allowed_jump list script k slot ≡ true
allowed-jump list script k slot outside has =
    all_allowed list script k slot (outside_slot list script) (inside-allowed list script k slot) script.events
    (each-none (outside_slot list script) script.events outside) has

undisturbed-allowed : (list : Medl) (script : Script) (k slot : ℕ) (e : Event) → disturbed_slot list script e ≡ None
    → is_some (jump_in k slot e) ≡ true
    → is_allowed_jump list script k slot ≡ true
undisturbed-allowed list script k slot e none here = grind arith

-- where nodes may be armed and nothing disturbs, a clock that jumps may do so
pub undisturbed-jump : (list : Medl) (script : Script) (k slot : ℕ) → disturbance_broken list script ≡ None
    → has_jump script k slot ≡ true
    → is_allowed_jump list script k slot ≡ true
undisturbed-jump list script k slot outside has =
    all_allowed list script k slot (disturbed_slot list script) (undisturbed-allowed list script k slot) script.events
    (each-none (disturbed_slot list script) script.events outside) has

no_jumps-step : (k slot : ℕ) (e : Event) (events : List Event) (found : Option ℤ) → jump_in k slot e ≡ found
    → (list_any (λ e. is_some (jump_in k slot e)) events ≡ false → sum_ℤ (filter_map (jump_in k slot) events) ≡ pos 0)
    → list_any (λ e. is_some (jump_in k slot e)) (e ∷ events) ≡ false
    → sum_ℤ (filter_map (jump_in k slot) (e ∷ events)) ≡ pos 0
no_jumps-step k slot e events None is later none = grind arith
no_jumps-step k slot e events (Some z) is later none = grind arith

-- where there is none, they add up to nothing
no_jumps : (k slot : ℕ) (events : List Event) → list_any (λ e. is_some (jump_in k slot e)) events ≡ false
    → sum_ℤ (filter_map (jump_in k slot) events) ≡ pos 0
no_jumps k slot [] none = refl
no_jumps k slot (e ∷ events) none = no_jumps-step k slot e events (jump_in k slot e) refl (no_jumps k slot events) none

pub no_jump-sum : (script : Script) (k slot : ℕ) → has_jump script k slot ≡ false → jump_of script k slot ≡ pos 0
no_jump-sum script k slot none = no_jumps k slot script.events none
