-- What a cluster stands for: the message numbers of its slots so far.
use Rattle.std.specs.Prelude.{◌≡◌, ℕ, ◌<◌, List, length, Option, option_map, IsSomeAnd}
use Rattle.ttp_world.specs.declared.medl.Medl.{Medl}
use Rattle.ttp_world.specs.declared.script.Script.{Script}
use Rattle.ttp_world.specs.declared.script.Source.{Source}
use Rattle.ttp_world.specs.World.{Numbers, world}
use Rattle.controller.specs.Passes.{StandAfter}
use Rattle.controller.specs.declared.seat.Seat.{Seat}
use Rattle.host_port.specs.declared.report.SlotReport.{SlotReport}
use Rattle.host_port.specs.Rings.{at_source, ControllerState, HostState, message_shape, incoming_shape}
use Rattle.cluster_run.specs.declared.nodes.Nodes.{Nodes}
use Rattle.cluster_run.specs.Ends.{end_at, host_at, desk_ends}
use Rattle.cluster_run.specs.Rings.{IsRingOf, words_written, words_read, pairs_sent, pairs_read}

-- what contracts see of the nodes: their controllers, and both ends of their rings
pub record NodesView : Type 0 where
  pub seats : List Seat
  pub controller_ends : List ControllerState
  pub host_ends : List HostState

-- What contracts see of a cluster: its list and script, how many slots it has done, its nodes, which are gone once
-- memory was refused, and the report of the newest slot.
pub record ClusterView : Type 0 where
  pub list : Medl
  pub script : Script
  pub done : ℕ
  pub nodes : Option NodesView
  pub report : SlotReport

abbrev pub nodes_view : Nodes → NodesView
nodes_view nodes = record {
  seats = nodes.seats.items;
  controller_ends = desk_ends nodes.desks.items;
  host_ends = nodes.host_ends.items;
}

abbrev pub cluster_of : Medl → Script → ℕ → Option Nodes → SlotReport → ClusterView
cluster_of list script done nodes report =
    record { list = list; script = script; done = done; nodes = option_map nodes_view nodes; report = report }

-- what node k's host wrote is in the ring of what it sends, and what frames carried of it was settled there
abbrev pub HoldsWritten : Medl → Script → Numbers → List HostState → ℕ → Type 0
HoldsWritten list script numbers ends k =
    IsRingOf (message_shape list k) (words_written list script k (length numbers)) (pairs_sent list script numbers k)
    (host_at ends k)

-- what came for host k from a source is in the ring of the source, and what the host read of it was settled there
abbrev pub HoldsRead : Medl → Script → Numbers → List ControllerState → ℕ → Source → Type 0
HoldsRead list script numbers ends k from =
    IsRingOf (incoming_shape list k from) (words_read list script (world list script numbers) k from)
    (pairs_read list script numbers k from) (at_source (end_at ends k) from)

pub record NodesStandFor (list : Medl) (script : Script) (nodes : NodesView) (numbers : Numbers) : Type 0 where
  pub seats : StandAfter script (world list script numbers) 0 nodes.seats
  pub written : (k : ℕ) → k < length list.slots → HoldsWritten list script numbers nodes.host_ends k
  pub read : (k : ℕ) → k < length list.slots → (from : Source)
      → HoldsRead list script numbers nodes.controller_ends k from

-- a cluster stands for the numbers of as many slots as it has done
pub record ClusterStandsFor (c : ClusterView) (numbers : Numbers) : Type 0 where
  pub done : c.done ≡ length numbers
  pub nodes : IsSomeAnd c.nodes (λ nodes. NodesStandFor c.list c.script nodes numbers)
