-- How a host reads: by a reader of each ring that it reads in a slot, with room for its reads.
use Rattle.std.specs.Prelude.{◌≡◌, ◌≢◌, ◌⊎◌, ℕ, ◌+◌, ◌/◌, ◌<◌, ◌≤◌, ◌==◌, ◌&&◌, Bool, true, false, List, [], ◌∷◌, ◌++◌}
use Rattle.std.specs.Prelude.{map, filter, count_by, length, get_or, take, Option}
use Rattle.std.specs.Prelude.{Some, None, option_map, nat_lt, IsSome, IsSomeAnd}
use Rattle.std.specs.Prelude.{if◌then◌else◌}
use Rattle.nbw_ring.specs.declared.view.Message.{Message}
use Rattle.nbw_ring.specs.Attempts.{attempt_steps, RepeatSteps, Gets, GetsNothing}
use Rattle.nbw_ring.specs.Numbers.{limit}
use Rattle.nbw_ring.specs.States.{RingState, WriterState, ReaderState, new_reader, with_joined}
use Rattle.ttp_world.specs.declared.host_lines.HostRead.{HostRead}
use Rattle.ttp_world.specs.declared.script.Source.{Source}
use Rattle.host_port.specs.declared.report.ReadLine.{ReadLine}
use Rattle.host_port.specs.Rings.{PortState, ControllerState, source_place}
use Rattle.host_port.specs.Fetching.{IsWhole, HasSeen}

-- a reader of each ring that is read, at the place of its source, and the sources of the reads that got a message, in
-- the order of these reads
pub record ReadersState : Type 0 where
  pub readers : List (Option ReaderState)
  pub calls : List Source

-- the rings that they read
abbrev pub rings_read : List (Option ReaderState) → List (Option RingState)
rings_read = map (option_map (λ reader. reader.ring))

-- what is read of a ring, if it is read, is that ring
abbrev pub IsItsRing : Option RingState → Option RingState → Type 0
IsItsRing ring None = Unit {0}
IsItsRing None (Some read) = ⊥
IsItsRing (Some ring) (Some read) = read ≡ ring

-- there is a place for each ring, and what is read there is that ring
pub record AreTheirRings (rings read : List (Option RingState)) : Type 0 where
  pub count : length read ≡ length rings
  pub each : (place : ℕ) → IsItsRing (get_or rings place None) (get_or read place None)

-- they read the rings of the port, or those that the end writes
abbrev pub AreReadersOf : PortState → ReadersState → Type 0
AreReadersOf port r = AreTheirRings port.incoming (rings_read r.readers)

abbrev pub AreReadersOfEnd : ControllerState → ReadersState → Type 0
AreReadersOfEnd end r = AreTheirRings (map (option_map (λ w. w.ring)) end) (rings_read r.readers)

-- Readers are lent.

-- a read is of a node's host, and of the ring at this place
abbrev pub is_read_at : ℕ → ℕ → HostRead → Bool
is_read_at node place read = (read.host == node) && (source_place read.source == place)

-- how often a node's host reads the source at a place, by the reads of a slot
abbrev pub reads_at : List HostRead → ℕ → ℕ → ℕ
reads_at reads node place = count_by (is_read_at node place) reads

-- how often a node's host reads a source, by the reads of a slot
abbrev pub reads_from : List HostRead → ℕ → Source → ℕ
reads_from reads node from = reads_at reads node (source_place from)

-- a ring's new reader with room for so many messages, if there is a ring, and any is read
abbrev pub lent : Option WriterState → ℕ → Option ReaderState
lent writer reads = if reads == 0 then None else option_map (λ w. new_reader w reads) writer

-- A host reads.

-- there is a reader, which has room for one message more
abbrev pub IsLeft : Option ReaderState → Type 0
IsLeft reader = IsSomeAnd reader (λ r. 1 ≤ r.spare)

-- the message of the newest attempt was intact at its last load
abbrev pub is_intact : ReaderState → Bool
is_intact r = nat_lt r.seen (limit r.ring.shape (r.first / 2))

-- one attempt was made. It began at no counter that is below one that the reader loaded before, and at no number that
-- is below its floor. Where its message was intact at the last load it was got, and else nothing was
pub record Attempts (old new : ReaderState) : Type 0 where
  pub ring : new.ring ≡ old.ring
  pub tries : new.tries ≡ old.tries + 1
  pub steps : new.steps ≡ old.steps + attempt_steps new
  pub later : old.seen ≤ new.first
  pub forward : new.first ≤ new.seen
  pub floor : old.floor ≤ new.first / 2
  pub got : is_intact new ≡ true → Gets old new (new.first / 2)
  pub nothing : is_intact new ≡ false → GetsNothing old new (new.first / 2) new.first new.seen

-- attempts were made until one got a message
pub record Repeats (old new : ReaderState) : Type 0 where
  pub ring : new.ring ≡ old.ring
  pub tries : old.tries < new.tries
  pub steps : RepeatSteps old new
  pub later : old.seen ≤ new.first
  pub forward : new.first ≤ new.seen
  pub floor : old.floor ≤ new.first / 2
  pub got : Gets old new (new.first / 2)

-- With one buffer attempts are repeated, and with more there is one.
abbrev pub Reads : ℕ → Option ReaderState → Option ReaderState → Type 0
Reads buffers (Some old) (Some new) = (buffers ≡ 1 → Repeats old new) × (buffers ≢ 1 → Attempts old new)
Reads buffers _ _ = ⊥

-- how many buffers the ring of a reader has
abbrev pub buffers_of : Option ReaderState → ℕ
buffers_of (Some r) = r.ring.shape.buffers
buffers_of None = 0

-- a reader's newest attempt got a message
abbrev pub got_one : Option ReaderState → Bool
got_one (Some r) = is_intact r
got_one None = false

-- the reads that got a message, once one of this source was made and left its reader so
abbrev pub calls_after : List Source → Source → Option ReaderState → List Source
calls_after calls from reader = if got_one reader then calls ++ from ∷ [] else calls

-- Readers are settled.

-- a ring's writer once its reader is joined, if there are both
abbrev pub settled : Option WriterState → Option ReaderState → Option WriterState
settled (Some w) (Some r) = Some (with_joined w r)
settled w _ = w

-- the writers once these readers, as far as they go, are joined
abbrev pub all_settled : ControllerState → List (Option ReaderState) → ControllerState
all_settled [] readers = []
all_settled (w ∷ ws) [] = w ∷ ws
all_settled (w ∷ ws) (r ∷ rs) = settled w r ∷ all_settled ws rs

-- The readers of some first writers were settled, until one wanted memory: none at all, or those before a writer that
-- has a reader.
pub record HaveSomeSettled (before : ControllerState)
    (readers : List (Option ReaderState)) (now : ControllerState) : Type 0
  where
    pub count : ℕ
    pub settled_so : now ≡ all_settled before (take count readers)
    pub wanted : (count ≡ 0) ⊎ IsSome (get_or readers count None)

-- what the reader got is the writer's messages, and it loaded no counter above twice the writer's number
abbrev pub IsReaderSettled : Option WriterState → Option ReaderState → Type 0
IsReaderSettled (Some w) (Some r) = IsWhole w r × HasSeen w r
IsReaderSettled _ _ = Unit {0}

-- what a reader got, if there is one
abbrev pub got_of : Option ReaderState → List Message
got_of (Some r) = r.got
got_of None = []

-- the pairs of the lines of one source, in their order
abbrev pub is_line_from : Source → ReadLine → Bool
is_line_from from line = source_place line.source == source_place from

abbrev pub pairs_from : Source → List ReadLine → List Message
pairs_from from lines = map (λ line. line.pair) (filter (is_line_from from) lines)
