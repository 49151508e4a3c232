-- What hosts write, beside what their controllers fetch of it.
use Rattle.std.specs.Prelude.{◌≡◌, ℕ, ◌+◌, ◌<◌, ◌≤◌, ◌==◌, Bool, true, List, [], ◌∷◌, ◌++◌, length, map}
use Rattle.std.specs.Prelude.{get_or, count_by, sum_by}
use Rattle.std.specs.Prelude.{slice_get, All, Option, Some, None, option_map, IsSome, IsSomeAnd, if◌then◌else◌}
use Rattle.std.specs.List.{filter_map}
use Rattle.std.specs.Option.{ForSome}
use Rattle.nbw_ring.specs.declared.view.Message.{Message}
use Rattle.nbw_ring.specs.Numbers.{most_number}
use Rattle.nbw_ring.specs.States.{WriterState, ReaderState}
use Rattle.ttp_world.specs.declared.medl.Medl.{Medl}
use Rattle.ttp_world.specs.declared.script.Script.{Script}
use Rattle.ttp_world.specs.Medl.{plan_at}
use Rattle.ttp_world.specs.Script.{HostWrite, payload_of_host, write_at}
use Rattle.ttp_world.specs.Words.{words_of_payload, word_count}
use Rattle.ttp_world.specs.World.{BegunSlot, is_loaded}
use Rattle.controller.specs.Passes.{HaveBegun}
use Rattle.controller.specs.declared.seat.Seat.{Seat}
use Rattle.host_port.specs.declared.report.WriteLine.{WriteLine}
use Rattle.host_port.specs.Rings.{HostState}
use Rattle.host_port.specs.Reading.{lent, Attempts, IsReaderSettled, settled}
use Rattle.line_text.specs.HostLines.{AreBytes, bytes_in}
use Rattle.ttp_world.specs.declared.node.Chosen.{Chosen}
use Rattle.host_port.specs.Writing.{Takes}
use Rattle.cluster_run.specs.Ends.{host_at}

-- Fetchers are lent.

-- a node's, where its frame carries a message
abbrev pub fetcher_lent : Bool → HostState → Option ReaderState
fetcher_lent loaded end = if loaded then lent end 1 else None

-- those of all nodes in a slot that has begun
pub record AreLent (s : BegunSlot) (ends : List HostState) (fetchers : List (Option ReaderState)) : Type 0 where
  pub count : length fetchers ≡ length ends
  pub each : (k : ℕ) → k < length ends → get_or fetchers k None ≡ fetcher_lent (is_loaded s k) (host_at ends k)

-- the controllers have begun some slot, and each node whose frame carries a message there has a ring of messages
pub record MayLend (seats : List Seat) (ends : List HostState) : Type 0 where
  pub slot : BegunSlot
  pub begun : HaveBegun slot 0 seats
  pub rings : (k : ℕ) → k < length ends → is_loaded slot k ≡ true → IsSome (host_at ends k)

-- Hosts write.

abbrev pub messages_by : ℕ → List HostWrite → List (List ℕ)
messages_by k writes = filter_map (payload_of_host k) writes

-- the steps of writing a message of a payload: one for each word, and two for the counter
abbrev pub write_steps : List ℕ → ℕ
write_steps payload = length (words_of_payload payload) + 2

-- a writer with these messages more
abbrev pub with_messages : WriterState → List (List ℕ) → WriterState
with_messages w messages = record w {
  messages = w.messages ++ map words_of_payload messages;
  steps = w.steps + sum_by write_steps messages;
}

-- node k's end once these writes were made
abbrev pub after_writes : List HostWrite → ℕ → HostState → HostState
after_writes writes k end = option_map (λ w. with_messages w (messages_by k writes)) end

-- how many messages its ring has
abbrev pub message_count : HostState → ℕ
message_count None = 0
message_count (Some w) = length w.messages

abbrev pub host_write_line : List HostState → ℕ → ℕ → WriteLine
host_write_line ends k earlier = record { host = k; number = message_count (host_at ends k) + earlier }

-- the lines of writes, where those came before them, by the ends before all of them
abbrev pub host_write_lines : List HostState → List HostWrite → List HostWrite → List WriteLine
host_write_lines ends earlier [] = []
host_write_lines ends earlier (w ∷ ws) =
    host_write_line ends w.host (count_by (λ e. e.host == w.host) earlier) ∷ host_write_lines ends (w ∷ earlier) ws

-- it is of bytes
abbrev pub WritesBytes : HostWrite → Type 0
WritesBytes write = AreBytes write.payload

-- its host's ring takes the payload, and has room for so many messages
pub record MayWrite (many : ℕ) (ends : List HostState) (write : HostWrite) : Type 0 where
  pub takes : Takes (host_at ends write.host) (length write.payload)
  pub room : message_count (host_at ends write.host) + many ≤ most_number

-- the ring of each write's host takes its payload, and has room for so many messages
abbrev pub MayWriteAll : Script → ℕ → List HostState → Type 0
MayWriteAll script many ends = (place : ℕ) (w : HostWrite) → write_at script place ≡ Some w → MayWrite many ends w

-- Controllers fetch.

-- one attempt of a fetcher, if there is one
abbrev pub Fetches : Option ReaderState → Option ReaderState → Type 0
Fetches None None = Unit {0}
Fetches None (Some new) = ⊥
Fetches (Some old) None = ⊥
Fetches (Some old) (Some new) = Attempts old new

-- a fetcher, if there is one, has not got a message yet
abbrev pub MayFetch : Option ReaderState → Type 0
MayFetch fetcher = ForSome fetcher (λ f. 1 ≤ f.spare)

-- those of all nodes
abbrev pub MayFetchAll : List (Option ReaderState) → Type 0
MayFetchAll fetchers = (k : ℕ) → MayFetch (get_or fetchers k None)

pub record FetchAll (old new : List (Option ReaderState)) : Type 0 where
  pub count : length new ≡ length old
  pub each : (k : ℕ) → k < length old → Fetches (get_or old k None) (get_or new k None)

-- Fetchers are settled.

-- a fetcher of this end's ring; where it got a message, that has the words of a payload of so many bytes
pub record MaySettle (end : HostState) (len : ℕ) (fetcher : ReaderState) : Type 0 where
  pub own : IsSomeAnd end (λ w. fetcher.ring ≡ w.ring)
  pub words : All (λ (pair : Message). length pair.words ≡ word_count len) fetcher.got

-- the message that is chosen by a pair: its number, and the payload of so many bytes
abbrev pub choice_by : ℕ → Option Message → Chosen → Chosen
choice_by len None before = before
choice_by len (Some pair) before = record { number = pair.number; payload = bytes_in len pair.words }

abbrev pub choice_of : Option ReaderState → ℕ → Chosen → Chosen
choice_of None len before = before
choice_of (Some fetcher) len before = choice_by len (slice_get fetcher.got 0) before

-- what a fetcher got is the end's messages, it is settled there, and its message is chosen
pub record SettlesFetch (len : ℕ) (fetcher : Option ReaderState) (old new : HostState) (before after : Chosen) : Type 0
  where
    pub whole : IsReaderSettled old fetcher
    pub settled_is : new ≡ settled old fetcher
    pub choice_is : after ≡ choice_of fetcher len before

-- One controller fetches.

-- whatever its attempt leaves of the fetcher that is lent may be settled
abbrev pub MaySettleAfter : ℕ → Bool → HostState → Type 0
MaySettleAfter len loaded end =
    (tried : Option ReaderState) → Fetches (fetcher_lent loaded end) tried → ForSome tried (MaySettle end len)

-- there is one attempt, if the node's frame carries a message, and what it got is chosen; the end is the middle one
-- once its host has written
pub record FetchesOne (len : ℕ) (loaded : Bool) (old mid new : HostState) (before after : Chosen) : Type 0 where
  pub tried : Option ReaderState
  pub fetches : Fetches (fetcher_lent loaded old) tried
  pub settles : SettlesFetch len tried mid new before after

-- the controllers have begun some slot, and each may fetch what its node's frame carries there
pub record MayFetchAlone (list : Medl) (seats : List Seat) (ends : List HostState) : Type 0 where
  pub lend : MayLend seats ends
  pub settle : (k : ℕ) → k < length ends
      → MaySettleAfter (plan_at list k).payload (is_loaded lend.slot k) (host_at ends k)
