-- What hosts did, by their lines: which messages they wrote and read, and of which sizes.
use Rattle.std.specs.Prelude.{ℕ, ◌==◌, max, Bool, true, false, ◌&&◌, List, [], ◌∷◌, map, length, Option, Some, None}
use Rattle.std.specs.Prelude.{if◌then◌else◌}
use Rattle.std.specs.List.{flat_map}
use Rattle.ttp_base.specs.NodeSet.{below}
use Rattle.ttp_world.specs.declared.script.Source.{Source}
use Rattle.ttp_world.specs.declared.script.Source.TheVariants as source
use Rattle.whole_trace.specs.declared.shown.HostLine.{HostLine}
use Rattle.whole_trace.specs.declared.shown.HostLine.TheVariants as line
use Rattle.shown_slot.specs.declared.host.Message.{Message}
use Rattle.shown_slot.specs.declared.host.Port.{Port}
use Rattle.shown_slot.specs.declared.host.What.{What}
use Rattle.shown_slot.specs.declared.host.What.TheVariants as what

abbrev pub same_source : Source → Source → Bool
same_source source.Status source.Status = true
same_source (source.Node p) (source.Node q) = p == q
same_source _ _ = false

-- the message of a line, if it is of this host and does this
abbrev pub message_in_line : ℕ → What → HostLine → Option Message
message_in_line k what.Write (line.Write host number) =
    if host == k then Some (record { number = number; payload = [] }) else None
message_in_line k (what.Read from) (line.Read host source number payload) =
    if (host == k) && same_source from source then Some (record { number = number; payload = payload }) else None
message_in_line k _ _ = None

-- the later one of two messages, if there is one
abbrev pub later : Option Message → Option Message → Option Message
later earlier None = earlier
later earlier (Some message) = Some message

-- the newest message of a host that does this
abbrev pub newest_host_message : ℕ → What → List HostLine → Option Message
newest_host_message k does [] = None
newest_host_message k does (line ∷ lines) = later (message_in_line k does line) (newest_host_message k does lines)

-- the larger size
abbrev pub larger : Option ℕ → Option ℕ → Option ℕ
larger None size = size
larger (Some n) None = Some n
larger (Some n) (Some m) = Some (max n m)

abbrev pub size_of : Option Message → Option ℕ
size_of None = None
size_of (Some message) = Some (length message.payload)

-- the most bytes of such messages, if there is one
abbrev pub most_bytes : ℕ → What → List HostLine → Option ℕ
most_bytes k does [] = None
most_bytes k does (line ∷ lines) = larger (size_of (message_in_line k does line)) (most_bytes k does lines)

-- all that a host of so many nodes may do
abbrev pub all_whats : ℕ → List What
all_whats n = what.Write ∷ what.Read source.Status ∷ map (λ p. what.Read (source.Node p)) (below n)

abbrev pub port_if : ℕ → What → Option ℕ → List Port
port_if k does None = []
port_if k does (Some size) = record { host = k; what = does; size = size } ∷ []

-- what the hosts of so many nodes do in these lines, each with the most bytes, the lowest host first
abbrev pub ports_of : ℕ → List HostLine → List Port
ports_of n lines =
    flat_map (λ k. flat_map (λ does. port_if k does (most_bytes k does lines)) (all_whats n)) (below n)
