-- Where nothing but arm lines stands outside the hypothesis, each jump goes far, so that a slot's sum of jumps tells
-- whether there is one.
use Rattle.hypothesis.proofs.Words.{◌≡◌, ◌≢◌, ℕ, pos, ◌≤ℤ◌, true, List, [], ◌∷◌, Option, None, refl, ◌∙◌, arith}
use Rattle.hypothesis.proofs.Words.{filter_map, Medl, Event, Script, least_of, outside_slot, outside_broken}
use Rattle.hypothesis.proofs.Words.{is_allowed_jump, disturbed_slot, disturbance_broken, jump_of, has_jump}
use Rattle.std.specs.List.{AllByRecursion}
use Rattle.ttp_world.specs.declared.script.Event.TheVariants as event
use Rattle.ttp_world.proofs.Jumps.{each-none, undisturbed-jump}

pub far_jump-sum : (list : Medl) (script : Script) (k slot : ℕ) → pos 1 ≤ℤ list.window
    → disturbance_broken list script ≡ None → has_jump script k slot ≡ true → jump_of script k slot ≢ pos 0
far_jump-sum list script k slot wide undisturbed has nothing =
    let far : is_allowed_jump list script k slot ≡ true = undisturbed-jump list script k slot undisturbed has in
    grind arith

-- Where nothing stands outside the hypothesis, nothing does beside arm lines.

undisturbed-one : (list : Medl) (script : Script) (e : Event) → outside_slot list script e ≡ None
    → disturbed_slot list script e ≡ None
undisturbed-one list script (event.Arm node slot) none = refl
undisturbed-one list script (event.Flip node channels bit slot) none = none
undisturbed-one list script (event.Jump node value slot) none = none
undisturbed-one list script _ none = refl

undisturbed-next : {X : Type 0} (f : X → Option ℕ) (x : X) (xs : List X) → f x ≡ None
    → least_of (filter_map f (x ∷ xs)) ≡ least_of (filter_map f xs)
undisturbed-next f x xs none = rw none refl

undisturbed-all : (list : Medl) (script : Script) (events : List Event)
    → AllByRecursion (λ e. outside_slot list script e ≡ None) events
    → least_of (filter_map (disturbed_slot list script) events) ≡ None
undisturbed-all list script [] none = refl
undisturbed-all list script (e ∷ events) none =
    undisturbed-next (disturbed_slot list script) e events (undisturbed-one list script e none.0)
    ∙ undisturbed-all list script events none.1

pub undisturbed : (list : Medl) (script : Script) → outside_broken list script ≡ None
    → disturbance_broken list script ≡ None
undisturbed list script none =
    undisturbed-all list script script.events (each-none (outside_slot list script) script.events none)
