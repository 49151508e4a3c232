-- What is known of the rings that hosts read.
use Rattle.std.specs.Prelude.{◌≡◌, ℕ, zero, suc, ◌+◌, ◌*◌, ◌<◌, ◌≤◌, List, [], ◌++◌, length, get_or, slice_get}
use Rattle.std.specs.Prelude.{Some}
use Rattle.ttp_world.specs.declared.medl.Medl.{Medl}
use Rattle.ttp_world.specs.declared.node.Chosen.{Chosen}
use Rattle.ttp_world.specs.declared.script.Script.{Script}
use Rattle.ttp_world.specs.declared.script.Source.{Source}
use Rattle.ttp_world.specs.declared.script.Source.TheVariants as source
use Rattle.ttp_world.specs.Diary.{History}
use Rattle.ttp_world.specs.declared.host_lines.HostRead.{HostRead}
use Rattle.ttp_world.specs.Messages.{ring_messages, newest_number}
use Rattle.ttp_world.specs.ZerosWorld.{all_zeros}
use Rattle.trace_check.specs.declared.incoming.Incoming.{Incoming}

-- a ring's newest message, and its number
abbrev pub newest_message : List (List ℕ) → List ℕ
newest_message messages = get_or messages (newest_number messages) []

-- where the floor of a host's source is
abbrev pub floor_place : ℕ → ℕ → Source → ℕ
floor_place nodes host source.Status = host * (nodes + 1)
floor_place nodes host (source.Node p) = host * (nodes + 1) + (1 + p)

-- the floor itself
abbrev pub floor_of : Incoming → ℕ → Source → ℕ
floor_of incoming host from = get_or incoming.floors.items (floor_place incoming.nodes host from) 0

-- this is the newest message of a sender's that a receiver got in a history
pub record IsNewestMessage (message : Chosen) (list : Medl) (script : Script) (history : History) (k p : ℕ)
    : Type 0 where
  pub number : message.number ≡ newest_number (ring_messages list script history k (source.Node p))
  pub payload : message.payload ≡ newest_message (ring_messages list script history k (source.Node p))

-- before the first slot so many receivers have the zeros of each sender
abbrev pub first_payloads : Medl → ℕ → List Chosen
first_payloads list zero = []
first_payloads list (suc receivers) = first_payloads list receivers ++ all_zeros list

-- a host and a source of the list's
abbrev pub IsHostAndSource : Medl → ℕ → Source → Type 0
IsHostAndSource list host source.Status = host < length list.slots
IsHostAndSource list host (source.Node p) = (host < length list.slots) × (p < length list.slots)

-- there is a place for each ring, and for what its host has read
pub record HasPlaces (incoming : Incoming) (list : Medl) : Type 0 where
  pub nodes : incoming.nodes ≡ length list.slots
  pub few : length list.slots < 256
  pub payloads : length incoming.payloads.items ≡ length list.slots * length list.slots
  pub statuses : length incoming.statuses.items ≡ length list.slots
  pub floors : length incoming.floors.items ≡ length list.slots * (length list.slots + 1)

-- the newest messages of the rings in a history are known
pub record TellsRings (incoming : Incoming) (list : Medl) (script : Script) (history : History) : Type 0 where
  pub places : HasPlaces incoming list
  pub payloads : (k p : ℕ) → k < length list.slots → p < length list.slots → (message : Chosen)
      → slice_get incoming.payloads.items (k * incoming.nodes + p) ≡ Some message
      → IsNewestMessage message list script history k p
  pub statuses : (k : ℕ) → k < length list.slots
      → slice_get incoming.statuses.items k
      ≡ Some (record { words = newest_message (ring_messages list script history k source.Status) })

-- the newest message of the ring that is read is kept, where it isn't that of a status
abbrev pub IsRingKept : Incoming → HostRead → Type 0
IsRingKept incoming read = (p : ℕ) → read.source ≡ source.Node p
    → read.host * incoming.nodes + p < length incoming.payloads.items

-- both know the same newest messages; what hosts have read may differ
pub record HaveSameMessages (old new : Incoming) : Type 0 where
  pub nodes : new.nodes ≡ old.nodes
  pub payloads : new.payloads ≡ old.payloads
  pub statuses : new.statuses ≡ old.statuses
  pub floor_count : length new.floors.items ≡ length old.floors.items

-- the number of the newest message in a history of the ring that is read
abbrev pub newest_before : Medl → Script → History → HostRead → ℕ
newest_before list script history read = newest_number (ring_messages list script history read.host read.source)

-- no floor is above its ring's newest message in a history
abbrev pub AreFloorsWithin : Incoming → Medl → Script → History → Type 0
AreFloorsWithin incoming list script history =
    (host : ℕ) (from : Source) → IsHostAndSource list host from
    → floor_of incoming host from ≤ newest_number (ring_messages list script history host from)
