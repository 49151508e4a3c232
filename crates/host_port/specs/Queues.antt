-- How readers keep count of the reads, and how the pairs of several readers become lines.
use Rattle.std.specs.Prelude.{◌≡◌, ℕ, ◌+◌, ◌≤◌, ◌==◌, List, [], ◌∷◌, map, length, count_by, get_or, sum_by, filter}
use Rattle.std.specs.Prelude.{Option, Some, None, vec_len, vec_capacity}
use Rattle.nbw_ring.specs.declared.view.Message.{Message}
use Rattle.nbw_ring.specs.States.{ReaderState}
use Rattle.ttp_world.specs.declared.host_lines.HostRead.{HostRead}
use Rattle.ttp_world.specs.declared.script.Source.{Source}
use Rattle.host_port.specs.declared.report.ReadLine.{ReadLine}
use Rattle.host_port.specs.declared.reading.HostReaders.TheInside.{Inside}
use Rattle.host_port.specs.Rings.{ControllerState, source_place}
use Rattle.host_port.specs.Reading.{ReadersState, reads_at, lent, got_of}

-- a reader of each ring that is read, at its source's place, and the sources of the reads that got a message
abbrev pub readers_of : List (Option ReaderState) → List Source → ReadersState
readers_of readers calls = record { readers = readers; calls = calls }

-- a reader of each ring, the first of them at this place, with room for the reads of its source
abbrev pub all_lent : List HostRead → ℕ → ℕ → ControllerState → List (Option ReaderState)
all_lent reads node place [] = []
all_lent reads node place (w ∷ ws) = lent w (reads_at reads node place) ∷ all_lent reads node (place + 1) ws

-- for how many more messages a reader has room
abbrev pub spare_of : Option ReaderState → ℕ
spare_of (Some r) = r.spare
spare_of None = 0

-- how many reads are of the source at a place
abbrev pub calls_at : ℕ → List Source → ℕ
calls_at place calls = count_by (λ from. source_place from == place) calls

-- each read that got a message is counted, and there is room for those that are left
pub record AreCounted (r : Inside) : Type 0 where
  pub room : vec_len r.calls + sum_by spare_of r.readers.items ≤ vec_capacity r.calls
  pub counts : (place : ℕ) → calls_at place r.calls.items ≡ length (got_of (get_or r.readers.items place None))

-- the pairs of the lines of the source at a place
abbrev pub pairs_at : ℕ → List ReadLine → List Message
pairs_at place lines = map (λ line. line.pair) (filter (λ line. source_place line.source == place) lines)

-- the pairs that wait for the lines of the source at a place
abbrev pub queue_at : List (List Message) → ℕ → List Message
queue_at queues place = get_or queues place []

-- there is a pair for each read
abbrev pub AreQueued : List Source → List (List Message) → Type 0
AreQueued calls queues = (place : ℕ) → calls_at place calls ≡ length (queue_at queues place)
