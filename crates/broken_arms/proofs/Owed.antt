-- An arm line has no reason against it just where its node may return.
use Rattle.std.proofs.Common.{◌≡◌, ℕ, zero, suc, ◌+◌, ◌-◌, max, Bool, true, false, cond, not, ◌&&◌, ◌||◌, List, [], ◌∷◌}
use Rattle.std.proofs.Common.{◌++◌, Option, Some, None, is_some, option_map, refl, ap, sym, ◌∙◌}
use Rattle.std.proofs.lemmas.List.Folds.{list_any-append}
use Rattle.std.specs.List.{filter_map, list_any, find}
use Rattle.std.specs.Option.{option_or}
use Rattle.std.specs.Prelude.{◌==◌}
use Rattle.ttp_world.specs.declared.medl.Medl.{Medl}
use Rattle.ttp_world.specs.declared.script.Event.{Event}
use Rattle.ttp_world.specs.declared.script.Event.TheVariants as event
use Rattle.ttp_world.specs.declared.script.Script.{Script}
use Rattle.ttp_world.specs.Hypothesis.{ClusterStart, FaultyNode, nodes_of, expected_sender}
use Rattle.ttp_world.specs.Hypothesis.{lesser, least_of, jumpers_in}
use Rattle.ttp_world.specs.Hypothesis.{nodes_made, loss_in}
use Rattle.ttp_world.specs.Returning.{slots_before, joinings, four_rounds, two_rounds, is_long_faulty, is_near_fault}
use Rattle.ttp_world.specs.Returning.{is_apart, is_only_arm, is_line_of, is_left_alone, touches, is_deaf, is_missed_in}
use Rattle.ttp_world.specs.Returning.{is_heard, is_offered, may_return, run_slots}
use Rattle.hypothesis.specs.Walks.{all_in}
use Rattle.broken_arms.specs.declared.reasons.NotOwed.{NotOwed}
use Rattle.broken_arms.specs.declared.reasons.NotOwed.TheVariants as why
use Rattle.broken_arms.specs.Arms.{near_fault, own_event_slot, own_line_slot, deaf_in}
use Rattle.broken_arms.specs.Arms.{unheard_in, unheard, offer_fails, hearing_fails}
use Rattle.broken_arms.specs.Arms.{by_own_line, only_arm_fails, by_near_fault, why_not_owed}
use Rattle.broken_faults.specs.Faults.{faulty_in, faults_before}
use Rattle.broken_arms.proofs.FromBelow.{all-append}

-- What is found is there.

found-step : {X : Type 0} (b any : Bool) (x : X) (rest : Option X) → is_some rest ≡ any
    → is_some (cond b (Some x) rest) ≡ (b || any)
found-step true any x rest is = refl
found-step false any x rest is = is

pub found-any : {X : Type 0} (p : X → Bool) (xs : List X) → is_some (find p xs) ≡ list_any p xs
found-any p [] = refl
found-any p (x ∷ xs) = found-step (p x) (list_any p xs) x (find p xs) (found-any p xs)

pub mapped-some : {X Y : Type 0} (f : X → Y) (found : Option X) → is_some (option_map f found) ≡ is_some found
mapped-some f None = refl
mapped-some f (Some x) = refl

either-some : {X : Type 0} (found other : Option X) → is_some (option_or found other) ≡ (is_some found || is_some other)
either-some None other = refl
either-some (Some x) other = refl

-- Faults near.

pub either-order : (a b : Bool) → (a || b) ≡ (b || a)
either-order true true = refl
either-order true false = refl
either-order false true = refl
either-order false false = refl

any-both : (p : FaultyNode → Bool) (slot : ℕ) (js ks : List ℕ)
    → list_any p (all_in slot (js ++ ks)) ≡ (list_any p (all_in slot js) || list_any p (all_in slot ks))
any-both p slot js ks =
    ap (list_any p) (all-append slot js ks) ∙ list_any-append p (all_in slot js) (all_in slot ks)

-- some fault of the first slots is so, in whatever order they are told
any-fault : (list : Medl) (script : Script) (start : ClusterStart) (p : FaultyNode → Bool) (slot : ℕ)
    → list_any p (faults_before list script start slot) ≡ list_any p (joinings (slots_before list script start slot))
any-fault list script start p zero = refl
any-fault list script start p (suc slot) =
    let js = jumpers_in list script (faulty_in list script start slot) slot in
    let ms = nodes_made (loss_in list script start (faulty_in list script start slot) slot) in
    let older = joinings (slots_before list script start slot) in
    list_any-append p (faults_before list script start slot) (all_in slot (js ++ ms))
    ∙ (λ i. any-fault list script start p slot i || any-both p slot js ms i)
    ∙ either-order (list_any p older) (list_any p (all_in slot js) || list_any p (all_in slot ms))
    ∙ ap (λ b. b || list_any p older) (either-order (list_any p (all_in slot js)) (list_any p (all_in slot ms))
    ∙ sym (any-both p slot ms js)) ∙ sym (list_any-append p (all_in slot (ms ++ js)) older)

near-any : (list : Medl) (script : Script) (start : ClusterStart) (slot : ℕ)
    → is_apart list script start slot ≡ not (is_some (near_fault list script start slot))
near-any list script start slot =
    sym (ap not (found-any (λ (f : FaultyNode). is_near_fault list slot f.slot)
    (faults_before list script start script.slots)
    ∙ any-fault list script start (λ (f : FaultyNode). is_near_fault list slot f.slot) script.slots))

-- Lines of the node's own.

lesser-some : (n : ℕ) (least : Option ℕ) → is_some (lesser n least) ≡ true
lesser-some n None = refl
lesser-some n (Some m) = refl

own-step : (list : Medl) (k slot n : ℕ) (e : Event) (events : List Event) (here touched : Bool)
    → own_event_slot list k slot e ≡ cond here (cond touched (Some n) None) None
    → is_line_of list k slot e ≡ (here && touched)
    → is_some (least_of (filter_map (own_event_slot list k slot) events)) ≡ list_any (is_line_of list k slot) events
    → is_some (least_of (filter_map (own_event_slot list k slot) (e ∷ events)))
    ≡ list_any (is_line_of list k slot) (e ∷ events)
own-step list k slot n e events true true own line later =
    rw (own, line) (lesser-some n (least_of (filter_map (own_event_slot list k slot) events)))
own-step list k slot n e events true false own line later = rw (own, line) later
own-step list k slot n e events false touched own line later = rw (own, line) later

own-any : (list : Medl) (k slot : ℕ) (events : List Event)
    → is_some (least_of (filter_map (own_event_slot list k slot) events)) ≡ list_any (is_line_of list k slot) events
own-any list k slot [] = refl
own-any list k slot (event.Send node channels f from to ∷ events) =
    own-step list k slot (max from slot) (event.Send node channels f from to) events (node == k)
    (touches list slot from to) refl refl (own-any list k slot events)
own-any list k slot (event.Receive node channels f from to ∷ events) =
    own-step list k slot (max from slot) (event.Receive node channels f from to) events (node == k)
    (touches list slot from to) refl refl (own-any list k slot events)
own-any list k slot (event.Jump node value at ∷ events) =
    own-step list k slot at (event.Jump node value at) events (node == k) (touches list slot at at) refl refl
    (own-any list k slot events)
own-any list k slot (event.Flip node channels bit at ∷ events) = own-any list k slot events
own-any list k slot (event.Error node value from to ∷ events) = own-any list k slot events
own-any list k slot (event.Arm node at ∷ events) = own-any list k slot events
own-any list k slot (event.Write node at payload ∷ events) = own-any list k slot events
own-any list k slot (event.Read node at from ∷ events) = own-any list k slot events

left-any : (list : Medl) (script : Script) (k slot : ℕ)
    → is_left_alone list script k slot ≡ not (is_some (own_line_slot list script k slot))
left-any list script k slot = sym (ap not (own-any list k slot script.events))

-- Hearing.

missed-by : (list : Medl) (script : Script) (start : ClusterStart) (k slot : ℕ) (sends : Bool)
    → (expected_sender list start slot == k) ≡ sends
    → is_some (unheard_in list script start k slot) ≡ is_missed_in list script start k slot
missed-by list script start k slot true is =
    rw is (mapped-some (λ r. why.Unheard r slot) (deaf_in list script start slot)
    ∙ found-any (is_deaf script (faulty_in list script start slot) slot) (nodes_of list))
missed-by list script start k slot false is = rw is refl

unheard-any : (list : Medl) (script : Script) (start : ClusterStart) (k : ℕ) (slots : List ℕ)
    → is_some (unheard list script start k slots) ≡ list_any (is_missed_in list script start k) slots
unheard-any list script start k [] = refl
unheard-any list script start k (slot ∷ slots) =
    either-some (unheard_in list script start k slot) (unheard list script start k slots)
    ∙ (λ i. missed-by list script start k slot (expected_sender list start slot == k) refl i
    || unheard-any list script start k slots i)

heard-any : (list : Medl) (script : Script) (start : ClusterStart) (k slot : ℕ)
    → is_heard list script start k slot
    ≡ not (is_some (unheard list script start k (run_slots script slot (four_rounds list))))
heard-any list script start k slot =
    sym (ap not (unheard-any list script start k (run_slots script slot (four_rounds list))))

-- All six.

offered-by : (b : Bool) (reason : NotOwed) → is_some (cond b None (Some reason)) ≡ not b
offered-by true reason = refl
offered-by false reason = refl

heard-by : (found other : Option NotOwed) (b : Bool) → is_some other ≡ not b
    → is_some (option_or found other) ≡ not (not (is_some found) && b)
heard-by None other b is = is
heard-by (Some reason) other b is = refl

own-by : (list : Medl) (script : Script) (start : ClusterStart) (k slot : ℕ) (own : Option ℕ) (b : Bool)
    → is_some (hearing_fails list script start k slot) ≡ not b
    → is_some (by_own_line list script start k slot own) ≡ not (not (is_some own) && b)
own-by list script start k slot None b is = is
own-by list script start k slot (Some at) b is = refl

only-by : (only b : Bool) (rest : Option NotOwed) (reason : NotOwed) → is_some rest ≡ not b
    → is_some (cond only rest (Some reason)) ≡ not (only && b)
only-by true b rest reason is = is
only-by false b rest reason is = refl

near-by : (list : Medl) (script : Script) (start : ClusterStart) (k slot : ℕ) (near : Option FaultyNode) (b : Bool)
    → is_some (only_arm_fails list script start k slot) ≡ not b
    → is_some (by_near_fault list script start k slot near) ≡ not (not (is_some near) && b)
near-by list script start k slot None b is = is
near-by list script start k slot (Some f) b is = refl

pub reason-none : (list : Medl) (script : Script) (start : ClusterStart) (k slot : ℕ)
    → is_some (why_not_owed list script start k slot) ≡ not (may_return list script start k slot)
reason-none list script start k slot =
    let given = is_offered list script start k slot in
    let hears = is_heard list script start k slot && given in
    let quiet = is_left_alone list script k slot && hears in
    let single = is_only_arm list script slot && quiet in
    let away = is_apart list script start slot && single in
    let heard_is : is_some (hearing_fails list script start k slot) ≡ not hears =
    heard-by (unheard list script start k (run_slots script slot (four_rounds list)))
    (offer_fails list script start k slot) given
    (offered-by given (why.NoPlace (slot + two_rounds list - 1)))
    ∙ ap (λ b. not (b && given)) (sym (heard-any list script start k slot)) in
    let own_is : is_some (by_own_line list script start k slot (own_line_slot list script k slot)) ≡ not quiet =
    own-by list script start k slot (own_line_slot list script k slot) hears heard_is
    ∙ ap (λ b. not (b && hears)) (sym (left-any list script k slot)) in
    let alone_is : is_some (only_arm_fails list script start k slot) ≡ not single =
    only-by (is_only_arm list script slot) quiet
    (by_own_line list script start k slot (own_line_slot list script k slot)) _ own_is in
    let near_is : is_some (by_near_fault list script start k slot (near_fault list script start slot)) ≡ not away =
    near-by list script start k slot (near_fault list script start slot) single alone_is
    ∙ ap (λ b. not (b && single)) (sym (near-any list script start slot)) in
    only-by (is_long_faulty list script start k slot) away
    (by_near_fault list script start k slot (near_fault list script start slot)) _ near_is
