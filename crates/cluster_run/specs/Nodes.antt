-- The nodes of a cluster between two slots, whatever they stand for.
use Rattle.std.specs.Prelude.{◌≡◌, ℕ, length}
use Rattle.ttp_world.specs.declared.medl.Medl.{Medl}
use Rattle.controller.specs.PlantStands.{AllStandAtFirst}
use Rattle.controller.specs.PlantWithin.{IsEnded, AreSeats, most_ahead}
use Rattle.cluster_run.specs.declared.nodes.Nodes.{Nodes}
use Rattle.cluster_run.specs.Ends.{AreNewEnds, desk_ends}

-- There is a place for each node of the list in all that slots share. Each controller is its node's, with its clock
-- within reach.
pub record AreNodesOf (list : Medl) (slot : ℕ) (nodes : Nodes) : Type 0 where
  pub seats_count : length nodes.seats.items ≡ length list.slots
  pub seats : AreSeats list IsEnded (most_ahead slot) 0 nodes.seats.items
  pub desks : length nodes.desks.items ≡ length list.slots
  pub host_ends : length nodes.host_ends.items ≡ length list.slots
  pub chosen : length nodes.chosen.items ≡ length list.slots

-- those before the first slot: no controller has an entry, and no ring a message but the zeros
pub record AreNewNodes (list : Medl) (nodes : Nodes) : Type 0 where
  pub are : AreNodesOf list 0 nodes
  pub stand : AllStandAtFirst nodes.seats.items
  pub rings : AreNewEnds list (length list.slots) (desk_ends nodes.desks.items) nodes.host_ends.items
