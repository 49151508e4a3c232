-- The first arm line that does not give its node its place stands in the slot that the rule names.
use Rattle.std.proofs.Common.{arith, ◌≡◌, ℕ, zero, suc, ◌+◌, ◌<◌, Bool, true, false}
use Rattle.std.proofs.Common.{cond, not, ◌||◌, List, [], ◌∷◌, Option, Some, None}
use Rattle.std.proofs.Common.{is_some, option_map, refl, ap, sym, ◌∙◌}
use Rattle.std.proofs.lemmas.Bool.{eqb-true, and_parts, not-true}
use Rattle.std.specs.List.{list_any, find, range_with_len}
use Rattle.std.specs.Option.{option_or}
use Rattle.std.specs.Prelude.{◌==◌}
use Rattle.ttp_base.specs.NodeSet.{below}
use Rattle.ttp_world.specs.declared.medl.Medl.{Medl}
use Rattle.ttp_world.specs.declared.script.Event.{Event}
use Rattle.ttp_world.specs.declared.script.Event.TheVariants as event
use Rattle.ttp_world.specs.declared.script.Script.{Script}
use Rattle.ttp_world.specs.Hypothesis.{ClusterStart, nodes_of}
use Rattle.ttp_world.specs.Returning.{may_return, fails_if_armed, breaks_arm_in, arms_broken}
use Rattle.ttp_world.specs.Script.{arms, is_armed}
use Rattle.broken_arms.specs.declared.arms.BrokenArm.{BrokenArm}
use Rattle.broken_arms.specs.declared.reasons.NotOwed.{NotOwed}
use Rattle.broken_arms.specs.Arms.{arm_fails, broken_from, broken_at, broken_arm, why_not_owed}
use Rattle.broken_arms.proofs.Owed.{mapped-some, reason-none}

abbrev line_at : ℕ → ℕ → ℕ → NotOwed → BrokenArm
line_at slot place node reason = record { slot = slot; place = place; node = node; why = reason }

passes-step : (p : ℕ → Bool) (x k : ℕ) (xs : List ℕ) (b : Bool) → p x ≡ b → (find p xs ≡ Some k → p k ≡ true)
    → find p (x ∷ xs) ≡ Some k → p k ≡ true
passes-step p x k xs true is later found =
    let here : Some x ≡ Some k = rw is at found in
    let same : x ≡ k = grind arith in
    ap p (sym same) ∙ is
passes-step p x k xs false is later found = later (rw is at found)

pub found-passes : (p : ℕ → Bool) (k : ℕ) (xs : List ℕ) → find p xs ≡ Some k → p k ≡ true
found-passes p k [] found = absurd (grind arith)
found-passes p k (x ∷ xs) found = passes-step p x k xs (p x) refl (found-passes p k xs) found

found-step : (p : ℕ → Bool) (a n k : ℕ) (here : Bool) → p a ≡ here
    → (find p (range_with_len (a + 1) n) ≡ Some k → k < a + 1 + n) → find p (range_with_len a (suc n)) ≡ Some k
    → k < a + suc n
found-step p a n k true is later found =
    let some : Some a ≡ Some k = rw is at found in
    let same : a ≡ k = grind arith in
    omega (arith, same)
found-step p a n k false is later found =
    let less = later (rw is at found) in
    omega (arith, less)

-- what is found among some numbers is one of them
found-range : (p : ℕ → Bool) (a n k : ℕ) → find p (range_with_len a n) ≡ Some k → k < a + n
found-range p a zero k found = absurd (grind arith)
found-range p a (suc n) k found = found-step p a n k (p a) refl (found-range p (a + 1) n k) found

pub found-below : (p : ℕ → Bool) (n k : ℕ) → find p (below n) ≡ Some k → k < n
found-below p n k found =
    let less = found-range p 0 n k found in
    omega (arith, less)

-- what an event that arms a node in a slot gives
armed-fails : (list : Medl) (script : Script) (start : ClusterStart) (k slot place : ℕ) (e : Event)
    → arms k slot e ≡ true → may_return list script start k slot ≡ false
    → is_some (arm_fails list script start slot place e) ≡ true
armed-fails list script start k slot place (event.Arm node at) armed fails =
    let parts = and_parts (node == k) (at == slot) armed in
    let same : node ≡ k = eqb-true node k parts.0 in
    rw parts.1 (mapped-some (line_at slot place node)
    (why_not_owed list script start node slot) ∙ reason-none list script start node slot
    ∙ ap not (ap (λ j. may_return list script start j slot) same ∙ fails))
armed-fails list script start k slot place (event.Flip node channels bit at) armed fails = absurd (grind arith)
armed-fails list script start k slot place e armed fails = absurd (grind arith)

one-step : (list : Medl) (script : Script) (start : ClusterStart) (k slot place : ℕ) (e : Event) (events : List Event)
    (here : Bool) (found : Option BrokenArm) → arms k slot e ≡ here → arm_fails list script start slot place e ≡ found
    → may_return list script start k slot ≡ false
    → (list_any (arms k slot) events ≡ true → is_some (broken_from list script start slot (place + 1) events) ≡ true)
    → (here || list_any (arms k slot) events) ≡ true
    → is_some (option_or found (broken_from list script start slot (place + 1) events)) ≡ true
one-step list script start k slot place e events here (Some arm) is told fails later any = refl
one-step list script start k slot place e events true None is told fails later any =
    let some = armed-fails list script start k slot place e is fails in
    let none : is_some (arm_fails list script start slot place e) ≡ false = ap is_some told in
    absurd (grind (arith, some, none))
one-step list script start k slot place e events false None is told fails later any = later any

-- so one of the events fails
one-fails : (list : Medl) (script : Script) (start : ClusterStart) (k slot place : ℕ) (events : List Event)
    → list_any (arms k slot) events ≡ true → may_return list script start k slot ≡ false
    → is_some (broken_from list script start slot place events) ≡ true
one-fails list script start k slot place [] armed fails = absurd (grind arith)
one-fails list script start k slot place (e ∷ events) armed fails =
    one-step list script start k slot place e events (arms k slot e)
    (arm_fails list script start slot place e) refl refl
    fails (λ any. one-fails list script start k slot (place + 1) events any fails) armed

armed-by : (list : Medl) (script : Script) (start : ClusterStart) (k slot : ℕ) (armed : Bool)
    → is_armed script k slot ≡ armed
    → fails_if_armed list script start k slot armed ≡ true
    → is_some (broken_from list script start slot 0 script.events) ≡ true
armed-by list script start k slot false is fails = absurd (grind arith)
armed-by list script start k slot true is fails =
    one-fails list script start k slot 0 script.events is (not-true (may_return list script start k slot) fails)

node-step : (list : Medl) (script : Script) (start : ClusterStart) (k slot : ℕ) (here rest : Bool)
    → fails_if_armed list script start k slot (is_armed script k slot) ≡ here
    → (rest ≡ true → is_some (broken_from list script start slot 0 script.events) ≡ true) → (here || rest) ≡ true
    → is_some (broken_from list script start slot 0 script.events) ≡ true
node-step list script start k slot true rest is later any =
    armed-by list script start k slot (is_armed script k slot) refl is
node-step list script start k slot false rest is later any = later any

any-node : (list : Medl) (script : Script) (start : ClusterStart) (slot : ℕ) (ks : List ℕ)
    → list_any (λ k. fails_if_armed list script start k slot (is_armed script k slot)) ks ≡ true
    → is_some (broken_from list script start slot 0 script.events) ≡ true
any-node list script start slot [] any = absurd (grind arith)
any-node list script start slot (k ∷ ks) any =
    node-step list script start k slot (fails_if_armed list script start k slot (is_armed script k slot))
    (list_any (λ k. fails_if_armed list script start k slot (is_armed script k slot)) ks) refl
    (any-node list script start slot ks) any

-- what is told stands in the slot
stands-in : (slot place node : ℕ) (here : Bool) (reason : Option NotOwed)
    → option_map (λ (arm : BrokenArm). arm.slot)
    (cond here (option_map (line_at slot place node) reason) None)
    ≡ option_map (λ (arm : BrokenArm). slot)
    (cond here (option_map (line_at slot place node) reason) None)
stands-in slot place node true (Some r) = refl
stands-in slot place node true None = refl
stands-in slot place node false reason = refl

one-slot : (list : Medl) (script : Script) (start : ClusterStart) (slot place : ℕ) (e : Event)
    → option_map (λ (arm : BrokenArm). arm.slot) (arm_fails list script start slot place e)
    ≡ option_map (λ (arm : BrokenArm). slot) (arm_fails list script start slot place e)
one-slot list script start slot place (event.Arm node at) =
    stands-in slot place node (at == slot) (why_not_owed list script start node slot)
one-slot list script start slot place (event.Flip node channels bit at) = refl
one-slot list script start slot place e = refl

or-slot : (slot : ℕ) (found other : Option BrokenArm)
    → option_map (λ (arm : BrokenArm). arm.slot) found ≡ option_map (λ (arm : BrokenArm). slot) found
    → option_map (λ (arm : BrokenArm). arm.slot) other ≡ option_map (λ (arm : BrokenArm). slot) other
    → option_map (λ (arm : BrokenArm). arm.slot) (option_or found other)
    ≡ option_map (λ (arm : BrokenArm). slot) (option_or found other)
or-slot slot None other here later = later
or-slot slot (Some arm) other here later = here

told-slot : (list : Medl) (script : Script) (start : ClusterStart) (slot place : ℕ) (events : List Event)
    → option_map (λ (arm : BrokenArm). arm.slot) (broken_from list script start slot place events)
    ≡ option_map (λ (arm : BrokenArm). slot) (broken_from list script start slot place events)
told-slot list script start slot place [] = refl
told-slot list script start slot place (e ∷ events) =
    or-slot slot (arm_fails list script start slot place e) (broken_from list script start slot (place + 1) events)
    (one-slot list script start slot place e) (told-slot list script start slot (place + 1) events)

the-slot : (slot : ℕ) (found : Option BrokenArm) → is_some found ≡ true
    → option_map (λ (arm : BrokenArm). slot) found ≡ Some slot
the-slot slot None some = absurd (grind arith)
the-slot slot (Some arm) some = refl

named-by : (list : Medl) (script : Script) (start : ClusterStart) (broken : Option ℕ)
    → arms_broken list script start ≡ broken
    → option_map (λ (arm : BrokenArm). arm.slot) (broken_at list script start broken) ≡ broken
named-by list script start None is = refl
named-by list script start (Some slot) is =
    told-slot list script start slot 0 script.events
    ∙ the-slot slot (broken_from list script start slot 0 script.events)
    (any-node list script start slot (nodes_of list)
    (found-passes (breaks_arm_in list script start) slot (below script.slots) is))

pub named : (list : Medl) (script : Script) (start : ClusterStart)
    → option_map (λ (arm : BrokenArm). arm.slot) (broken_arm list script start) ≡ arms_broken list script start
named list script start = named-by list script start (arms_broken list script start) refl
