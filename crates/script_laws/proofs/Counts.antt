-- How often hosts write in a slot: the lines count what the script does.
use Rattle.std.proofs.Common.{◌≡◌, ℕ, ◌+◌, ◌==◌, ◌&&◌, Bool, true, false, List, [], ◌∷◌, length, count_by, refl, arith}
use Rattle.std.proofs.Common.{None, cond, filter_map}
use Rattle.ttp_world.specs.declared.script.Event.{Event}
use Rattle.ttp_world.specs.declared.script.Event.TheVariants as event
use Rattle.ttp_world.specs.Script.{write_in, payload_of_host}
use Rattle.script_text.specs.Faults.{is_write_at}
use Rattle.script_text.specs.Statement.{says_event}
use Rattle.script_laws.proofs.FromBelow.{count_one}

-- an event is a write of node k in slot t
abbrev pub writes_at : ℕ → ℕ → Event → Bool
writes_at k t e = is_write_at k t (says_event e)

abbrev messages : ℕ → ℕ → List Event → List (List ℕ)
messages k t events = filter_map (payload_of_host k) (filter_map (write_in t) events)

one_write : (k t node slot : ℕ) (payload : List ℕ) (events : List Event)
    (is_node is_slot : Bool) → (node == k) ≡ is_node
    → (slot == t) ≡ is_slot
    → length (messages k t (event.Write node slot payload ∷ events))
    ≡ length (messages k t events) + cond (is_node && is_slot) 1 0
one_write k t node slot payload events true true a b = rw (b, a) (omega arith)
one_write k t node slot payload events false true a b = rw (b, a) (omega arith)
one_write k t node slot payload events true false a b = rw b (omega arith)
one_write k t node slot payload events false false a b = rw b (omega arith)

none_more : (k t : ℕ) (e : Event) (events : List Event) → write_in t e ≡ None → writes_at k t e ≡ false
    → length (messages k t events) ≡ count_by (writes_at k t) events
    → length (messages k t (e ∷ events)) ≡ count_by (writes_at k t) (e ∷ events)
none_more k t e events none is_none rest =
    rw none (omega (arith, rest, count_one (writes_at k t) e events false is_none))

pub messages-counted : (k t : ℕ) (events : List Event) → length (messages k t events) ≡ count_by (writes_at k t) events
messages-counted k t [] = refl
messages-counted k t (event.Send node channels kind from to ∷ events) =
    none_more k t (event.Send node channels kind from to) events refl refl (messages-counted k t events)
messages-counted k t (event.Receive node channels kind from to ∷ events) =
    none_more k t (event.Receive node channels kind from to) events refl refl (messages-counted k t events)
messages-counted k t (event.Flip node channels bit slot ∷ events) =
    none_more k t (event.Flip node channels bit slot) events refl refl (messages-counted k t events)
messages-counted k t (event.Error node value from to ∷ events) =
    none_more k t (event.Error node value from to) events refl refl (messages-counted k t events)
messages-counted k t (event.Jump node value slot ∷ events) =
    none_more k t (event.Jump node value slot) events refl refl (messages-counted k t events)
messages-counted k t (event.Arm node slot ∷ events) =
    none_more k t (event.Arm node slot) events refl refl (messages-counted k t events)
messages-counted k t (event.Write node slot payload ∷ events) =
    omega (
      arith,
      one_write k t node slot payload events (node == k) (slot == t) refl refl,
      messages-counted k t events,
      count_one (writes_at k t) (event.Write node slot payload) events ((node == k) && (slot == t)) refl,
    )
messages-counted k t (event.Read node slot from ∷ events) =
    none_more k t (event.Read node slot from) events refl refl (messages-counted k t events)
