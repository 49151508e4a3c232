-- What a script says of a slot, and when it is valid for a list.
--
-- A script is asked by its events: which of them speak of a node in a slot, and what they add up to.
use Rattle.std.specs.Prelude.{◌≡◌, ◌≢◌, ℕ, ◌<◌, ◌≤◌, nat_le, ℤ, pos, is_some, if◌then◌else◌, Bool, true, false, ◌==◌}
use Rattle.std.specs.Prelude.{List, length, get_or, count_by, slice_get, All, Option, Some, None, unwrap_or, IfSome}
use Rattle.std.specs.Prelude.{option_and_then}
use Rattle.std.specs.List.{list_any, filter_map}
use Rattle.ttp_world.specs.declared.events.Incidents.{Incidents}
pub use Rattle.ttp_world.specs.declared.host_lines.HostRead.{HostRead}
use Rattle.ttp_world.specs.declared.host_lines.Written.{Written}
use Rattle.ttp_world.specs.declared.medl.Medl.{Medl}
use Rattle.ttp_world.specs.declared.script.Channel.{Channel}
use Rattle.ttp_world.specs.declared.script.Event.{Event}
use Rattle.ttp_world.specs.declared.script.Event.TheVariants as event
use Rattle.ttp_world.specs.declared.script.Fault.{Fault}
use Rattle.ttp_world.specs.declared.script.Script.{Script}
use Rattle.ttp_world.specs.declared.script.Source.{Source}
use Rattle.ttp_world.specs.declared.script.Source.TheVariants as source
use Rattle.ttp_world.specs.declared.script.TheConstants.{SLOT_LIMIT, EVENT_LIMIT, HOST_EVENT_LIMIT, DRIFT_LIMIT}
use Rattle.ttp_world.specs.declared.script.TheConstants.{ERROR_LIMIT, JUMP_LIMIT, FIRST_FLIPPED_BIT, LAST_FLIPPED_BIT}
pub use Rattle.ttp_world.specs.Events.{arms, covers, is_among, is_same_fault, is_send_fault, is_receive_fault}
pub use Rattle.ttp_world.specs.Events.{flipped_bit, bit_on, bits_on, sum_ℤ, error_in, jump_in, incidents_in}
pub use Rattle.ttp_world.specs.Events.{IsWithinSpan, IsBounded, AreBounded}
use Rattle.ttp_world.specs.Medl.{plan_at}

-- When nodes are switched on.

-- the slot in which a node is switched on, if it ever is
abbrev pub on_slot : Script → ℕ → Option ℕ
on_slot script k = unwrap_or (slice_get script.on k) None

-- node k is ever switched on
abbrev pub is_ever_on : Script → ℕ → Bool
is_ever_on script k = is_some (on_slot script k)

-- whether a node is on in a slot
abbrev pub has_come : ℕ → Option ℕ → Bool
has_come slot None = false
has_come slot (Some on) = nat_le on slot

abbrev pub is_on : Script → ℕ → ℕ → Bool
is_on script k slot = has_come slot (on_slot script k)

-- whether an event arms a node in a slot
abbrev pub is_armed : Script → ℕ → ℕ → Bool
is_armed script k slot = list_any (arms k slot) script.events

-- Faults on a channel.

-- a fault of this kind strikes what node k sends on a channel in a slot
abbrev pub has_send_fault : Script → Fault → ℕ → Channel → ℕ → Bool
has_send_fault script kind k c slot = list_any (is_send_fault kind k c slot) script.events

-- and one strikes what it hears
abbrev pub has_receive_fault : Script → Fault → ℕ → Channel → ℕ → Bool
has_receive_fault script kind k c slot = list_any (is_receive_fault kind k c slot) script.events

-- the bits that events flip in the frame that a node sends on a channel in a slot, in the order of the script
abbrev pub flipped_bits : Script → ℕ → Channel → ℕ → List ℕ
flipped_bits script k c slot = filter_map (flipped_bit k c slot) script.events

-- Clocks.

-- how far the clock of node k drifts in each slot, in microticks
abbrev pub drift_of : Script → ℕ → ℤ
drift_of script k = get_or script.drift k (pos 0)

-- the sum of a receiver's reading errors in a slot
abbrev pub reading_error : Script → ℕ → ℕ → ℤ
reading_error script k slot = sum_ℤ (filter_map (error_in k slot) script.events)

-- the sum of the jumps of a node's clock in a slot
abbrev pub jump_of : Script → ℕ → ℕ → ℤ
jump_of script k slot = sum_ℤ (filter_map (jump_in k slot) script.events)

-- whether there is one, be it by nothing
abbrev pub has_jump : Script → ℕ → ℕ → Bool
has_jump script k slot = list_any (λ e. is_some (jump_in k slot e)) script.events

-- what a script says of node k in a slot, all but what its host does
abbrev pub incidents_of : Script → ℕ → ℕ → Incidents
incidents_of script k slot = incidents_in script.events k slot

-- Hosts.

-- a message that a node's host writes
pub record HostWrite : Type 0 where
  pub host : ℕ
  pub payload : List ℕ

-- a message that a node's host writes, where it lies in the script
abbrev pub host_write : Written → HostWrite
host_write written = record { host = written.host; payload = written.payload.now }

-- the message that an event writes in a slot
abbrev pub write_in : ℕ → Event → Option HostWrite
write_in slot (event.Write node at payload) =
    if at == slot then Some (record { host = node; payload = payload }) else None
write_in slot _ = None

-- what an event reads in a slot
abbrev pub read_in : ℕ → Event → Option HostRead
read_in slot (event.Read node at from) = if at == slot then Some (record { host = node; source = from }) else None
read_in slot _ = None

-- the message that the event at a place writes
abbrev pub write_of : Event → Option HostWrite
write_of (event.Write node at payload) = Some (record { host = node; payload = payload })
write_of _ = None

abbrev pub write_at : Script → ℕ → Option HostWrite
write_at script place = option_and_then write_of (slice_get script.events place)

-- the messages that hosts write in a slot, and what they read there, in the order of the script
abbrev pub writes_in : Script → ℕ → List HostWrite
writes_in script slot = filter_map (write_in slot) script.events

abbrev pub reads_in : Script → ℕ → List HostRead
reads_in script slot = filter_map (read_in slot) script.events

-- a message, where it is of this host
abbrev pub payload_of_host : ℕ → HostWrite → Option (List ℕ)
payload_of_host k write = if write.host == k then Some write.payload else None

-- the messages that one node's host writes in a slot
abbrev pub messages_written : Script → ℕ → ℕ → List (List ℕ)
messages_written script k slot = filter_map (payload_of_host k) (writes_in script slot)

-- When a script is valid for a list.

-- a node of the list, in slots of the run
abbrev pub IsSpan : Script → ℕ → ℕ → Type 0
IsSpan script from to = (from ≤ to) × (to < script.slots)

-- a node that sends payload has a ring at each other node
abbrev pub IsSource : Medl → ℕ → Source → Type 0
IsSource list host source.Status = Unit {0}
IsSource list host (source.Node k) = (k < length list.slots) × (1 ≤ (plan_at list k).payload) × (k ≢ host)

-- an event is valid: its node exists, its slots are those of the run, and what it says is within its limits
abbrev pub IsValidEvent : Medl → Script → Event → Type 0
IsValidEvent list script (event.Send node channels f from to) = (node < length list.slots) × IsSpan script from to
IsValidEvent list script (event.Receive node channels f from to) = (node < length list.slots) × IsSpan script from to
IsValidEvent list script (event.Flip node channels bit slot) =
    (node < length list.slots) × (FIRST_FLIPPED_BIT ≤ bit) × (bit ≤ LAST_FLIPPED_BIT) × (slot < script.slots)
IsValidEvent list script (event.Error node value from to) =
    (node < length list.slots) × IsWithinSpan ERROR_LIMIT value × IsSpan script from to
IsValidEvent list script (event.Jump node value slot) =
    (node < length list.slots) × IsWithinSpan JUMP_LIMIT value × (slot < script.slots)
IsValidEvent list script (event.Arm node slot) = (node < length list.slots) × (slot < script.slots)
IsValidEvent list script (event.Write node slot payload) =
    (node < length list.slots) × (slot < script.slots) × (1 ≤ (plan_at list node).payload)
    × (length payload ≡ (plan_at list node).payload)
IsValidEvent list script (event.Read node slot from) =
    (node < length list.slots) × (slot < script.slots) × IsSource list node from

-- an event is of a host
abbrev pub is_host_event : Event → Bool
is_host_event (event.Write node slot payload) = true
is_host_event (event.Read node slot from) = true
is_host_event _ = false

-- a slot that may be there is one of the run
abbrev pub IsWithinRun : Script → Option ℕ → Type 0
IsWithinRun script on = IfSome on (λ slot. slot < script.slots)

-- each number is in its range, each event is one of the list's nodes, and no node's host writes in one slot so
-- often that a buffer of its ring would be used twice
pub record IsValidScript (list : Medl) (script : Script) : Type 0 where
  pub slots : (1 ≤ script.slots) × (script.slots ≤ SLOT_LIMIT)
  pub on_count : length script.on ≡ length list.slots
  pub on : All (IsWithinRun script) script.on
  pub drift_count : length script.drift ≡ length list.slots
  pub drift : All (IsWithinSpan DRIFT_LIMIT) script.drift
  pub events : All (IsValidEvent list script) script.events
  pub writes : (k slot : ℕ) → length (messages_written script k slot) < list.buffers
  pub event_count : length script.events ≤ EVENT_LIMIT
  pub host_event_count : count_by is_host_event script.events ≤ HOST_EVENT_LIMIT
