-- What contracts see of a port and of its two ends: which rings there are, and what was written to them.
use Rattle.std.specs.Prelude.{◌≡◌, ℕ, ◌+◌, ◌==◌, List, map, get_or, Option, Some, None}
use Rattle.std.specs.Prelude.{option_map, IfSome, IsSomeAnd, if◌then◌else◌, All}
use Rattle.nbw_ring.specs.declared.view.Shape.{Shape}
use Rattle.nbw_ring.specs.States.{RingState, WriterState, new_writer}
use Rattle.ttp_world.specs.declared.medl.Medl.{Medl}
use Rattle.ttp_world.specs.declared.script.Source.{Source}
use Rattle.ttp_world.specs.declared.script.Source.TheVariants as source
use Rattle.ttp_world.specs.Medl.{plan_at}
use Rattle.ttp_world.specs.Words.{word_count}

-- Each source has a place among the rings that a host reads: the status the first one, and then each node, by its
-- number.
abbrev pub source_place : Source → ℕ
source_place source.Status = 0
source_place (source.Node k) = k + 1

-- what is there for a source, if anything is
abbrev pub at_source : {A : Type 0} → List (Option A) → Source → Option A
at_source xs from = get_or xs (source_place from) None

-- the node, how many buffers each ring has, the rings that its host reads, each at the place of its source, and the
-- ring that its host writes, if there is one
pub record PortState : Type 0 where
  pub node : ℕ
  pub buffers : ℕ
  pub incoming : List (Option RingState)
  pub outgoing : Option RingState

-- a port of these parts
abbrev pub port_of : ℕ → ℕ → List (Option RingState) → Option RingState → PortState
port_of node buffers incoming outgoing =
    record { node = node; buffers = buffers; incoming = incoming; outgoing = outgoing }

-- each ring has so many buffers
abbrev pub HaveBuffers : ℕ → List (Option RingState) → Type 0
HaveBuffers buffers rings = All (λ ring. IfSome ring (λ r. r.shape.buffers ≡ buffers)) rings

-- The controller's end has the writers of the rings that the host reads, each at the place of its source.
abbrev pub ControllerState : Type 0
ControllerState = List (Option WriterState)

-- the status ring is there, and its messages have four words
abbrev pub HasStatus : ControllerState → Type 0
HasStatus end = IsSomeAnd (at_source end source.Status) (λ w. w.ring.shape.width ≡ 4)

-- The host's end has the writer of the outgoing ring.
abbrev pub HostState : Type 0
HostState = Option WriterState

-- An end is of a port where it writes the port's rings.

-- a controller's end is of a port where it writes the rings that the port's host reads
abbrev pub IsControllerEndOf : PortState → ControllerState → Type 0
IsControllerEndOf port end = map (option_map (λ w. w.ring)) end ≡ port.incoming

-- a host's end is of a port where it writes the port's outgoing ring
abbrev pub IsHostEndOf : PortState → HostState → Type 0
IsHostEndOf port end = option_map (λ w. w.ring) end ≡ port.outgoing

-- Which rings a list gives a node.

-- the shape of a ring of messages of so many words
abbrev pub shape_of : Medl → ℕ → Shape
shape_of list width = record { width = width; buffers = list.buffers }

-- the rings of a node's messages, if it sends payload
abbrev pub message_shape : Medl → ℕ → Option Shape
message_shape list k =
    if (plan_at list k).payload == 0 then None else Some (shape_of list (word_count (plan_at list k).payload))

-- the rings that its host reads: a status ring of four words, and one for each other node with payload
abbrev pub incoming_shape : Medl → ℕ → Source → Option Shape
incoming_shape list node source.Status = Some (shape_of list 4)
incoming_shape list node (source.Node k) = if k == node then None else message_shape list k

-- there is a ring of this shape, which was just made, or none where none is due
abbrev pub IsNew : Option Shape → Option WriterState → Type 0
IsNew None writer = writer ≡ None
IsNew (Some shape) writer = IsSomeAnd writer (λ w. (w.ring.shape ≡ shape) × (w ≡ new_writer w.ring))
