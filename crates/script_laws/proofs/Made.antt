-- The events of a generated script, as they are written.
use Rattle.std.proofs.Common.{◌≡◌, ℕ, zero, suc, ◌+◌, ◌*◌, ◌%◌, ◌<◌, ◌==◌, Bool}
use Rattle.std.proofs.Common.{true, false, cond, List, [], ◌∷◌, ◌++◌, map}
use Rattle.std.proofs.Common.{length, refl, arith, replicate, nat_lt}
use Rattle.std.specs.List.{AllByRecursion, flat_map}
use Rattle.ttp_base.specs.NodeSet.{below}
use Rattle.ttp_world.specs.declared.medl.Medl.{Medl}
use Rattle.ttp_world.specs.declared.script.Event.{Event}
use Rattle.ttp_world.specs.declared.script.Event.TheVariants as event
use Rattle.ttp_world.specs.declared.script.Fault.TheVariants as fault
use Rattle.ttp_world.specs.declared.script.Source.TheVariants as source
use Rattle.ttp_world.specs.Medl.{plan_at}
use Rattle.ttp_world.proofs.LineLists.{each-append}
use Rattle.script_gen.specs.Draws.{drawn}
use Rattle.script_gen.specs.Generator.{both_channels, error_by, fault_by, fault_within}
use Rattle.script_gen.specs.Generator.{fault_slot_of, starter_of, most_faults}
use Rattle.script_gen.specs.Generator.{has_payload, write_by, reads_by, host_events_in}
use Rattle.script_gen.specs.Generator.{error_events, fault_events, host_events}
use Rattle.script_gen.specs.Generator.{all_events}

-- an event of a kind that is made: faults are noise on both channels, and messages are of bytes
abbrev pub IsMade : Event → Type 0
IsMade (event.Send node channels kind from to) = (channels ≡ both_channels) × (kind ≡ fault.Noise)
IsMade (event.Receive node channels kind from to) = (channels ≡ both_channels) × (kind ≡ fault.Noise)
IsMade (event.Error node value from to) = Unit {0}
IsMade (event.Write node slot payload) = AllByRecursion (λ b. b < 256) payload
IsMade (event.Read node slot from) = Unit {0}
IsMade _ = ⊥

abbrev pub AreMade : List Event → Type 0
AreMade events = AllByRecursion IsMade events

each-map : (f : ℕ → Event) → ((k : ℕ) → IsMade (f k)) → (ks : List ℕ) → AreMade (map f ks)
each-map f each [] = tt
each-map f each (k ∷ ks) = (each k, each-map f each ks)

each-flat : (f : ℕ → List Event) → ((k : ℕ) → AreMade (f k)) → (ks : List ℕ) → AreMade (flat_map f ks)
each-flat f each [] = tt
each-flat f each (k ∷ ks) = each-append IsMade (f k) (flat_map f ks) (each k) (each-flat f each ks)

bytes-replicate : (n b : ℕ) → b < 256 → AllByRecursion (λ x. x < 256) (replicate n b)
bytes-replicate zero b small = tt
bytes-replicate (suc n) b small = (small, bytes-replicate n b small)

fault-made : (list : Medl) (j draw : ℕ) → IsMade (fault_by list j draw)
fault-made list j draw = by_draw (draw % 2 == 0)
  where
    slot : ℕ
    slot = fault_slot_of list j

    turn : ℕ
    turn = starter_of list + 2 * j

    by_draw : (even : Bool)
        → IsMade (cond even (event.Send (turn % length list.slots) both_channels fault.Noise slot slot)
        (event.Receive ((turn + 1) % length list.slots) both_channels fault.Noise slot slot))
    by_draw true = (refl, refl)
    by_draw false = (refl, refl)

within-made : (list : Medl) (slots number j : ℕ) → AreMade (fault_within list slots number j)
within-made list slots number j = by_slot (nat_lt (fault_slot_of list j) slots)
  where
    by_slot : (within : Bool)
        → AreMade (cond within (fault_by list j (drawn number (2 * length list.slots + j)) ∷ []) [])
    by_slot true = (fault-made list j (drawn number (2 * length list.slots + j)), tt)
    by_slot false = tt

write-made : (list : Medl) (slot k : ℕ) (does : Bool)
    → AreMade (cond does (event.Write k slot (replicate (plan_at list k).payload (slot % 256)) ∷ []) [])
write-made list slot k true = (bytes-replicate (plan_at list k).payload (slot % 256) (omega arith), tt)
write-made list slot k false = tt

reads-made : (list : Medl) (slot host k : ℕ) (does : Bool)
    → AreMade (event.Read host slot source.Status ∷ cond does (event.Read host slot (source.Node k) ∷ []) [])
reads-made list slot host k true = (tt, (tt, tt))
reads-made list slot host k false = (tt, tt)

hosts-made : (list : Medl) (slot : ℕ) → AreMade (host_events_in list slot)
hosts-made list slot =
    let n = length list.slots in
    each-append IsMade (write_by list slot (slot % n)) (reads_by list slot ((slot + 1) % n) (slot % n))
    (write-made list slot (slot % n) _) (reads-made list slot ((slot + 1) % n) (slot % n) (has_payload list (slot % n)))

pub all-made : (list : Medl) (slots number : ℕ) → AreMade (all_events list slots number)
all-made list slots number =
    each-append IsMade (error_events list slots number) (fault_events list slots number ++ host_events list slots)
    (each-map (error_by list slots number) (λ k. tt) (below (length list.slots)))
    (each-append IsMade (fault_events list slots number) (host_events list slots)
    (each-flat (fault_within list slots number) (within-made list slots number) (below (most_faults list)))
    (each-flat (host_events_in list) (hosts-made list) (below slots)))
