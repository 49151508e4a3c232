-- Tables of what hosts do: where each has its entry, and what the entries of a table say.
use Rattle.std.specs.Prelude.{◌≡◌, ◌<◌, ℕ, ◌+◌, ◌*◌, List, [], slice_get, get_or, flat_map, Option, Some, None}
use Rattle.ttp_base.specs.NodeSet.{most_nodes}
use Rattle.ttp_world.specs.declared.script.Source.TheVariants as source
use Rattle.whole_trace.specs.declared.shown.HostLine.{HostLine}
use Rattle.whole_trace.specs.declared.shown.HostLine.TheVariants as line
use Rattle.shown_slot.specs.declared.host.Message.{Message}
use Rattle.shown_slot.specs.declared.host.Port.{Port}
use Rattle.shown_slot.specs.declared.host.What.{What}
use Rattle.shown_slot.specs.declared.host.What.TheVariants as what
use Rattle.shown_slot.specs.Ports.{most_bytes, newest_host_message, port_if}
use Rattle.wave_text.specs.Variables.{HasSourceLetter}

-- a host has a row of entries: for what it writes, for its status, and for what it reads of each node
abbrev pub in_row : What → ℕ
in_row what.Write = 0
in_row (what.Read source.Status) = 1
in_row (what.Read (source.Node p)) = 2 + p

abbrev pub table_place : ℕ → What → ℕ
table_place k does = 26 * k + in_row does

-- a host and a source below 24 have a place in a table
abbrev pub HasPlace : ℕ → What → Type 0
HasPlace k does = (k < most_nodes) × HasSourceLetter does

-- which host a line is of, and what it did
abbrev pub host_in : HostLine → ℕ
host_in (line.Write host number) = host
host_in (line.Read host from number payload) = host

abbrev pub what_in : HostLine → What
what_in (line.Write host number) = what.Write
what_in (line.Read host from number payload) = what.Read from

abbrev pub message_said : HostLine → Message
message_said (line.Write host number) = record { number = number; payload = [] }
message_said (line.Read host from number payload) = record { number = number; payload = payload }

-- in a table of messages stands the newest one of these lines
abbrev pub HasNewest : List (Option Message) → List HostLine → ℕ → What → Type 0
HasNewest messages lines k does = slice_get messages (table_place k does) ≡ Some (newest_host_message k does lines)

-- in a table of sizes stands the largest one of these lines
abbrev pub HasMost : List (Option ℕ) → List HostLine → ℕ → What → Type 0
HasMost sizes lines k does = slice_get sizes (table_place k does) ≡ Some (most_bytes k does lines)

-- the size that a table has of a port, and the ports of a host and of all by a table
abbrev pub size_at : List (Option ℕ) → ℕ → What → Option ℕ
size_at sizes k does = get_or sizes (table_place k does) None

abbrev pub ports_in : List (Option ℕ) → List What → ℕ → List Port
ports_in sizes whats k = flat_map (λ does. port_if k does (size_at sizes k does)) whats
