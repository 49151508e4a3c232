-- What hosts read of what came to their nodes, and the lines of it.
use Rattle.std.specs.Prelude.{◌≡◌, ◌≢◌, ℕ, zero, suc, ◌<◌, ◌≤◌, ◌==◌, Bool, List, [], map, filter, length}
use Rattle.std.specs.Prelude.{get_or, Option, Some, None, IsSomeAnd, option_map}
use Rattle.std.specs.List.{list_any}
use Rattle.std.specs.Option.{ForSome}
use Rattle.nbw_ring.specs.Numbers.{limit}
use Rattle.nbw_ring.specs.States.{RingState, ReaderState}
use Rattle.ttp_world.specs.declared.host_lines.HostRead.{HostRead}
use Rattle.ttp_world.specs.declared.script.Source.{Source}
use Rattle.host_port.specs.declared.report.ReadLine.{ReadLine}
use Rattle.host_port.specs.Reading.{ReadersState, AreReadersOfEnd, rings_read, Reads, reads_from, lent, IsReaderSettled}
use Rattle.host_port.specs.Reading.{settled, got_of, pairs_from, buffers_of, calls_after}
use Rattle.host_port.specs.Rings.{ControllerState, at_source, source_place}
use Rattle.cluster_run.specs.Ends.{end_at}

-- Readers.

-- what there is for node k's host, if it reads in the slot
abbrev pub readers_at : List (Option ReadersState) → ℕ → Option ReadersState
readers_at readers k = get_or readers k None

-- the reader of a source
abbrev pub reader_in : Option ReadersState → Source → Option ReaderState
reader_in None from = None
reader_in (Some r) from = at_source r.readers from

abbrev pub reader_at : List (Option ReadersState) → ℕ → Source → Option ReaderState
reader_at readers k from = reader_in (readers_at readers k) from

-- the sources of the reads that got a message
abbrev pub calls_in : Option ReadersState → List Source
calls_in None = []
calls_in (Some r) = r.calls

-- there is a place for each end, and what is there reads the rings of that end
pub record AreReadersOfAll (ends : List ControllerState) (readers : List (Option ReadersState)) : Type 0 where
  pub count : length readers ≡ length ends
  pub own : (k : ℕ) → k < length ends → ForSome (readers_at readers k) (AreReadersOfEnd (end_at ends k))

-- the rings that they read, if there are any
abbrev pub rings_in : Option ReadersState → Option (List (Option RingState))
rings_in = option_map (λ r. rings_read r.readers)

-- Readers are lent.

-- node k's host reads
abbrev pub is_host : ℕ → HostRead → Bool
is_host k read = read.host == k

abbrev pub has_reads : List HostRead → ℕ → Bool
has_reads reads k = list_any (is_host k) reads

-- new readers of the rings of this end that node k's host reads, each with room for the reads of its source
pub record AreLentTo (reads : List HostRead) (k : ℕ) (end : ControllerState) (r : Option ReadersState) : Type 0 where
  pub readers : (from : Source) → reader_in r from ≡ lent (at_source end from) (reads_from reads k from)
  pub calls : calls_in r ≡ []
  pub own : ForSome r (AreReadersOfEnd end)

-- those of each host
pub record AreReadersLent (reads : List HostRead) (ends : List ControllerState) (readers : List (Option ReadersState))
    : Type 0 where
  pub count : length readers ≡ length ends
  pub each : (k : ℕ) → k < length ends → AreLentTo reads k (end_at ends k) (readers_at readers k)

-- Hosts read.

-- a read by a host's readers: that of its source made it, and the others are as they were, all of the same rings
pub record IsRead (read : HostRead) (old new : Option ReadersState) : Type 0 where
  pub rings : rings_in new ≡ rings_in old
  pub reads : Reads (buffers_of (reader_in old read.source)) (reader_in old read.source) (reader_in new read.source)
  pub others : (other : Source) → source_place other ≢ source_place read.source
      → reader_in new other ≡ reader_in old other
  pub calls : calls_in new ≡ calls_after (calls_in old) read.source (reader_in new read.source)

-- n reads of one reader, one after another
abbrev pub ReadsMany : ℕ → Option ReaderState → Option ReaderState → Type 0
ReadsMany zero old new = new ≡ old
ReadsMany (suc n) old new = (mid : Option ReaderState) × ReadsMany n old mid × Reads (buffers_of mid) mid new

-- with two buffers or more, what was newest when the reader was lent is intact still at its newest load
abbrev pub IsClear : Option ReaderState → Option ReaderState → Type 0
IsClear (Some old) (Some new) = old.ring.shape.buffers ≢ 1 → new.seen < limit old.ring.shape old.floor
IsClear _ _ = Unit {0}

-- the reads of node k's host from these sources
abbrev pub reads_of_host : ℕ → List Source → List HostRead
reads_of_host k sources = map (λ from. record { host = k; source = from }) sources

-- Each reader has made the reads of its host and source, of the same ring. Where all of a host's readers are clear each
-- of its reads got a message.
pub record HaveRead (reads : List HostRead) (old new : List (Option ReadersState)) : Type 0 where
  pub count : length new ≡ length old
  pub rings : (k : ℕ) → rings_in (readers_at new k) ≡ rings_in (readers_at old k)
  pub each : (k : ℕ) (from : Source)
      → ReadsMany (reads_from reads k from) (reader_at old k from) (reader_at new k from)
  pub calls : (k : ℕ) → ((from : Source) → IsClear (reader_at old k from) (reader_at new k from))
      → reads_of_host k (calls_in (readers_at new k)) ≡ filter (is_host k) reads

-- no host has read yet, and each has a reader of what it reads, with room for all its reads of it
pub record HaveRoomForReads (reads : List HostRead) (readers : List (Option ReadersState)) : Type 0 where
  pub calls : (k : ℕ) → calls_in (readers_at readers k) ≡ []
  pub room : (k : ℕ) (from : Source) → 1 ≤ reads_from reads k from
      → IsSomeAnd (reader_at readers k from) (λ r. reads_from reads k from ≤ r.spare)

-- Readers are settled.

-- what each reader of a host got is its end's messages, and it is settled there
pub record SettlesReadsOf (old : ControllerState) (readers : Option ReadersState) (new : ControllerState) : Type 0 where
  pub whole : (from : Source) → IsReaderSettled (at_source old from) (reader_in readers from)
  pub settled_is : (from : Source) → at_source new from ≡ settled (at_source old from) (reader_in readers from)

-- what the readers of all hosts got is their ends' messages, and each is settled there
pub record SettlesReads (old : List ControllerState) (readers : List (Option ReadersState)) (new : List ControllerState)
    : Type 0 where
  pub each : (k : ℕ) → k < length readers → SettlesReadsOf (end_at old k) (readers_at readers k) (end_at new k)

-- each read got a message
abbrev pub AllGot : List HostRead → List (Option ReadersState) → Type 0
AllGot reads readers = (k : ℕ) → reads_of_host k (calls_in (readers_at readers k)) ≡ filter (is_host k) reads

-- Lines.

-- the read that a line is of
abbrev pub read_of : ReadLine → HostRead
read_of line = record { host = line.host; source = line.source }

abbrev pub lines_by : ℕ → List ReadLine → List ReadLine
lines_by k lines = filter (λ line. line.host == k) lines

-- the lines of the readers of node k's host: one for each read that got a message, with what its reader got
pub record AreLinesBy (k : ℕ) (r : Option ReadersState) (lines : List ReadLine) : Type 0 where
  pub reads : map read_of lines ≡ reads_of_host k (calls_in r)
  pub pairs : (from : Source) → pairs_from from lines ≡ got_of (reader_in r from)

-- the lines of all hosts, a line for each read
pub record AreLinesOf (reads : List HostRead) (readers : List (Option ReadersState)) (lines : List ReadLine) : Type 0
  where
    pub reads_are : map read_of lines ≡ reads
    pub pairs : (k : ℕ) (from : Source) → pairs_from from (lines_by k lines) ≡ got_of (reader_at readers k from)

-- The lines of hosts wait in queues.

abbrev pub queue_of : List (List ReadLine) → ℕ → List ReadLine
queue_of queues k = get_or queues k []

-- those that readers leave
abbrev pub AreQueuesOf : List (Option ReadersState) → List (List ReadLine) → Type 0
AreQueuesOf readers queues =
    (k : ℕ) → k < length readers → AreLinesBy k (readers_at readers k) (queue_of queues k)

-- there is a line for each of these reads
abbrev pub AreDue : List HostRead → List (List ReadLine) → Type 0
AreDue reads queues = (k : ℕ) → map read_of (queue_of queues k) ≡ filter (is_host k) reads
