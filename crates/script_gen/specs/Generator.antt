-- The script that is generated for a list, a number of slots and a number to draw by.
use Rattle.std.specs.Prelude.{ℕ, ◌+◌, ◌-◌, ◌*◌, ◌/◌, ◌%◌, min, nat_le, nat_lt, ℤ, pos, ◌-ℤ◌, Bool, true, ◌&&◌, ◌==◌}
use Rattle.std.specs.Prelude.{List, [], ◌∷◌, ◌++◌, length, map, replicate, count_by, position, Option, Some, unwrap_or}
use Rattle.std.specs.Prelude.{if◌then◌else◌}
use Rattle.std.specs.Int.RustNames.{unsigned_abs}
use Rattle.std.specs.List.{flat_map}
use Rattle.ttp_base.specs.NodeSet.{below}
use Rattle.ttp_world.specs.declared.medl.Medl.{Medl}
use Rattle.ttp_world.specs.declared.script.Channels.{Channels}
use Rattle.ttp_world.specs.declared.script.Event.{Event}
use Rattle.ttp_world.specs.declared.script.Event.TheVariants as event
use Rattle.ttp_world.specs.declared.script.Fault.TheVariants as fault
use Rattle.ttp_world.specs.declared.script.Script.{Script}
use Rattle.ttp_world.specs.declared.script.Source.TheVariants as source
use Rattle.ttp_world.specs.Medl.{plan_at}
use Rattle.script_gen.specs.Draws.{drawn}

-- The start. All nodes are on from slot 0, so the least of those that may start is the one that does.

-- where none may, faults lie as though node 0 started
abbrev pub first_starter : Medl → Option ℕ
first_starter list = position (λ plan. plan.start) list.slots

-- the node that starts
abbrev pub starter_of : Medl → ℕ
starter_of list = unwrap_or (first_starter list) 0

-- the slot of the start
abbrev pub start_slot_of : Medl → ℕ
start_slot_of list = 2 * length list.slots + starter_of list

-- Clocks: of each node the first of two draws is its drift, and the second its reading error in all slots.

-- a draw as a number from minus a bound up to it
abbrev pub spread_over : ℤ → ℕ → ℤ
spread_over bound draw = pos (draw % (2 * unsigned_abs bound + 1)) -ℤ bound

-- the drift of node k
abbrev pub drift_by : Medl → ℕ → ℕ → ℤ
drift_by list number k = spread_over list.drift (drawn number (2 * k))

-- its reading error, in all slots
abbrev pub error_by : Medl → ℕ → ℕ → ℕ → Event
error_by list slots number k =
    event.Error k (spread_over list.error (drawn number (2 * k + 1))) 0 (slots - 1)

-- Faults: each has a draw, which says whether the sender of the fault's slot is faulty, or the node after it.

-- so many leave four nodes with `sync`
abbrev pub most_faults : Medl → ℕ
most_faults list = min (count_by (λ plan. plan.sync) list.slots - 4) (length list.slots / 2)

-- the slot of fault j: two rounds after the start, and then two rounds and two slots apart
abbrev pub fault_slot_of : Medl → ℕ → ℕ
fault_slot_of list j = start_slot_of list + 2 * length list.slots + j * (2 * length list.slots + 2)

-- channels A and B
abbrev pub both_channels : Channels
both_channels = record { a = true; b = true }

-- fault j: what the sender sends is noise, or the node after it hears noise
abbrev pub fault_by : Medl → ℕ → ℕ → Event
fault_by list j draw =
    let slot = fault_slot_of list j in
    let turn = starter_of list + 2 * j in
    if draw % 2 == 0
    then event.Send (turn % length list.slots) both_channels fault.Noise slot slot
    else event.Receive ((turn + 1) % length list.slots) both_channels fault.Noise slot slot

-- the fault of a number, where its slot is one of the run
abbrev pub fault_within : Medl → ℕ → ℕ → ℕ → List Event
fault_within list slots number j =
    if nat_lt (fault_slot_of list j) slots then fault_by list j (drawn number (2 * length list.slots + j)) ∷ [] else []

-- Hosts: the sender's host writes a message where its node sends payload, and the host of the node after it reads its
-- status, and then what it got from that sender.

-- node k sends payload
abbrev pub has_payload : Medl → ℕ → Bool
has_payload list k = nat_le 1 (plan_at list k).payload

-- what the host of node k writes in a slot, where rings have two buffers or more and the node sends payload
abbrev pub write_by : Medl → ℕ → ℕ → List Event
write_by list slot k =
    if nat_le 2 list.buffers && has_payload list k
    then event.Write k slot (replicate (plan_at list k).payload (slot % 256)) ∷ [] else []

-- what a host reads in a slot: its status, and what it got from node k
abbrev pub reads_by : Medl → ℕ → ℕ → ℕ → List Event
reads_by list slot host k =
    event.Read host slot source.Status
    ∷ (if has_payload list k then event.Read host slot (source.Node k) ∷ [] else [])

-- what hosts do in a slot: the sender's writes, and that of the node after it reads
abbrev pub host_events_in : Medl → ℕ → List Event
host_events_in list slot =
    let n = length list.slots in write_by list slot (slot % n) ++ reads_by list slot ((slot + 1) % n) (slot % n)

-- The events stand in this order: errors by nodes, faults, and what hosts do slot by slot.

-- the reading errors, one line for each node
abbrev pub error_events : Medl → ℕ → ℕ → List Event
error_events list slots number = map (error_by list slots number) (below (length list.slots))

-- the faults, one after another, of those whose slot is one of the run
abbrev pub fault_events : Medl → ℕ → ℕ → List Event
fault_events list slots number = flat_map (fault_within list slots number) (below (most_faults list))

-- what hosts do, slot by slot
abbrev pub host_events : Medl → ℕ → List Event
host_events list slots = flat_map (host_events_in list) (below slots)

-- all events: errors, faults, and what hosts do
abbrev pub all_events : Medl → ℕ → ℕ → List Event
all_events list slots number =
    error_events list slots number ++ (fault_events list slots number ++ host_events list slots)

-- the script that a number gives for a list, in a run of so many slots
unfoldable pub generated : Medl → ℕ → ℕ → Script
generated list slots number = record {
  slots = slots;
  on = replicate (length list.slots) (Some 0);
  drift = map (drift_by list number) (below (length list.slots));
  events = all_events list slots number;
}
