-- How many lines hosts have: one for each event of theirs, each in one slot.
use Rattle.std.proofs.Common.{◌≡◌, ℕ, suc, ◌+◌, ◌≤◌, Bool, true, false, cond, List, [], ◌∷◌, length}
use Rattle.std.proofs.Common.{Some, None, refl, arith}
use Rattle.std.specs.Prelude.{◌==◌, count_by, nat_lt}
use Rattle.std.specs.List.{cons_option, filter_map}
use Rattle.std.proofs.lemmas.Bool.Decides.{nat_tests}
use Rattle.std.proofs.lemmas.List.Sums.{sum_by-cons}
use Rattle.ttp_world.specs.declared.host_lines.HostRead.{HostRead}
use Rattle.ttp_world.specs.declared.script.Event.{Event}
use Rattle.ttp_world.specs.declared.script.Event.TheVariants as event
use Rattle.ttp_world.specs.Script.{HostWrite, is_host_event, read_in, write_in}

-- whether an event is a host's, in a slot below one
abbrev pub is_host_event_below : ℕ → Event → Bool
is_host_event_below slot (event.Write node at payload) = nat_lt at slot
is_host_event_below slot (event.Read node at from) = nat_lt at slot
is_host_event_below slot _ = false

-- how many events of a list are of a host, in slots below this one
abbrev pub host_events_below : List Event → ℕ → ℕ
host_events_below events slot = count_by (is_host_event_below slot) events

count-cons : (p : Event → Bool) (e : Event) (events : List Event)
    → count_by p (e ∷ events) ≡ cond (p e) 1 0 + count_by p events
count-cons p e events = sum_by-cons (λ x. cond (p x) 1 0) e events

-- The events of one slot more.

length-if : {X : Type 0} (b : Bool) (x : X) (xs : List X)
    → length (cons_option (cond b (Some x) None) xs) ≡ cond b 1 0 + length xs
length-if true x xs = omega arith
length-if false x xs = omega arith

one_slot : (at slot : ℕ) → cond (nat_lt at slot) 1 0 + cond (at == slot) 1 0 ≡ cond (nat_lt at (suc slot)) 1 0
one_slot at slot = grind (arith, nat_tests)

event_next : (slot : ℕ) (e : Event) (ws : List HostWrite) (rs : List HostRead)
    → cond (is_host_event_below slot e) 1 0
    + (length (cons_option (write_in slot e) ws) + length (cons_option (read_in slot e) rs))
    ≡ cond (is_host_event_below (suc slot) e) 1 0 + (length ws + length rs)
event_next slot (event.Write node at payload) ws rs =
    omega (
      arith,
      one_slot at slot,
      length-if {X = HostWrite} (at == slot)
          (record { host = node; payload = payload }) ws,
    )
event_next slot (event.Read node at from) ws rs =
    omega (arith, one_slot at slot, length-if {X = HostRead} (at == slot) (record { host = node; source = from }) rs)
event_next slot _ ws rs = refl

pub host_events-next : (events : List Event) (slot : ℕ)
    → host_events_below events slot
    + (length (filter_map (write_in slot) events) + length (filter_map (read_in slot) events))
    ≡ host_events_below events (suc slot)
host_events-next [] slot = refl
host_events-next (e ∷ events) slot =
    let now = count-cons (is_host_event_below slot) e events in
    let then = count-cons (is_host_event_below (suc slot)) e events in
    let next = event_next slot e (filter_map (write_in slot) events) (filter_map (read_in slot) events) in
    omega (arith, now, then, next, host_events-next events slot)

-- There are no more of them than of all slots.

most : (b : Bool) → cond b 1 0 ≤ 1
most true = omega arith
most false = omega arith

event_most : (slot : ℕ) (e : Event) → cond (is_host_event_below slot e) 1 0 ≤ cond (is_host_event e) 1 0
event_most slot (event.Write node at payload) = most (nat_lt at slot)
event_most slot (event.Read node at from) = most (nat_lt at slot)
event_most slot _ = omega arith

pub host_events-most : (events : List Event) (slot : ℕ)
    → host_events_below events slot ≤ count_by is_host_event events
host_events-most [] slot = omega arith
host_events-most (e ∷ events) slot =
    let below = count-cons (is_host_event_below slot) e events in
    omega (arith, below, count-cons is_host_event e events, event_most slot e, host_events-most events slot)
