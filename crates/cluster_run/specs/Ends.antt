-- Both ends of the rings between the controllers of a cluster and their hosts.
use Rattle.std.specs.Prelude.{ℕ, ◌<◌, List, [], map, get_or, Option, None, option_map}
use Rattle.nbw_ring.specs.States.{RingState, WriterState}
use Rattle.ttp_world.specs.declared.medl.Medl.{Medl}
use Rattle.ttp_world.specs.declared.script.Source.{Source}
use Rattle.host_port.specs.Rings.{ControllerState, HostState, at_source}
use Rattle.host_port.specs.Rings.{message_shape, incoming_shape, IsNew}
use Rattle.cluster_run.specs.declared.nodes.Desk.{Desk}

-- the ring of a writer, if there is one
abbrev pub writer_ring : Option WriterState → Option RingState
writer_ring = option_map (λ w. w.ring)

-- the rings of a controller's end
abbrev pub rings_of : ControllerState → List (Option RingState)
rings_of end = map writer_ring end

-- the controllers' ends of desks, and the numbers of what was delivered there
abbrev pub desk_ends : List Desk → List ControllerState
desk_ends = map (λ desk. desk.end)

abbrev pub desk_numbers : List Desk → List (Option ℕ)
desk_numbers = map (λ desk. desk.delivered)

-- the ends of node k
abbrev pub end_at : List ControllerState → ℕ → ControllerState
end_at ends k = get_or ends k []

abbrev pub host_at : List HostState → ℕ → HostState
host_at ends k = get_or ends k None

-- every ring of the first nodes was just made
pub record AreNewEnds (list : Medl) (many : ℕ) (controller_ends : List ControllerState) (host_ends : List HostState)
    : Type 0 where
  pub incoming : (k : ℕ) → k < many → (from : Source)
      → IsNew (incoming_shape list k from) (at_source (end_at controller_ends k) from)
  pub outgoing : (k : ℕ) → k < many → IsNew (message_shape list k) (host_at host_ends k)
