-- What a slot makes of a cluster.
use Rattle.std.specs.Prelude.{◌≡◌, ℕ, ◌+◌, ◌<◌, List, [], ◌∷◌, length, Option}
use Rattle.ttp_world.specs.declared.medl.Medl.{Medl}
use Rattle.ttp_world.specs.declared.script.Script.{Script}
use Rattle.ttp_world.specs.declared.script.Source.{Source}
use Rattle.ttp_world.specs.Legal.{IsLegal}
use Rattle.ttp_world.specs.Script.{reads_in, writes_in}
use Rattle.ttp_world.specs.World.{Numbers, world, frames_in}
use Rattle.controller.specs.Limits.{IsPlanned}
use Rattle.controller.specs.Passes.{HavePlanned, CarriesFrames, HaveEnded}
use Rattle.controller.specs.PlantStands.{outcomes_of}
use Rattle.controller.specs.PlantWithin.{AreSeats, AreIncidents, IsFromWithin, most_ahead_in}
use Rattle.host_port.specs.declared.report.ReadLine.{ReadLine}
use Rattle.host_port.specs.declared.report.SlotReport.{SlotReport}
use Rattle.host_port.specs.declared.report.WriteLine.{WriteLine}
use Rattle.host_port.specs.Reading.{ReadersState}
use Rattle.host_port.specs.Rings.{ControllerState}
use Rattle.cluster_run.specs.declared.current.CurrentSlot.{CurrentSlot}
use Rattle.cluster_run.specs.declared.nodes.Nodes.{Nodes}
use Rattle.cluster_run.specs.Choosing.{AreBytesBefore, HaveChosen, next_slot}
use Rattle.cluster_run.specs.Ending.{IsPartReady, HasPartEnded, HaveHandedOn}
use Rattle.cluster_run.specs.Ends.{desk_ends, desk_numbers}
use Rattle.cluster_run.specs.Nodes.{AreNodesOf}
use Rattle.cluster_run.specs.Reading.{AllGot, AreLinesOf, AreReadersLent, HaveRead, SettlesReads}
use Rattle.cluster_run.specs.Report.{report_numbers, writes_shown, ShowsNext}
use Rattle.cluster_run.specs.Standing.{ClusterView, ClusterStandsFor, NodesView, NodesStandFor, HoldsRead, nodes_view}

-- Before the slot of this number.

-- the nodes stand for the numbers of as many slots
pub record NodesStandAt (list : Medl) (script : Script) (slot : ℕ) (nodes : NodesView) (numbers : Numbers)
    : Type 0 where
  pub count : length numbers ≡ slot
  pub stands : NodesStandFor list script nodes numbers

-- the nodes stand for some numbers, of as many slots
pub record StandsForSome (list : Medl) (script : Script) (slot : ℕ) (nodes : NodesView) : Type 0 where
  pub numbers : Numbers
  pub at : NodesStandAt list script slot nodes numbers

-- Once the slot is planned.

-- There is a place for each node, each controller is its node's and has planned, and what is on the medium was sent by
-- them.
pub record ArePlannedNodes (at : CurrentSlot) (nodes : Nodes) : Type 0 where
  pub seats_count : length nodes.seats.items ≡ length at.list.now.slots
  pub seats : AreSeats at.list.now IsPlanned (most_ahead_in at.slot) 0 nodes.seats.items
  pub incidents : AreIncidents at.script.now at.slot 0 nodes.seats.items
  pub desks : length nodes.desks.items ≡ length at.list.now.slots
  pub host_ends : length nodes.host_ends.items ≡ length at.list.now.slots
  pub chosen : length nodes.chosen.items ≡ length at.list.now.slots
  pub slot_is : nodes.medium.slot ≡ at.slot
  pub medium : IsFromWithin nodes.medium at.script.now (most_ahead_in at.slot)

-- the slot is the one after the world of these numbers
pub record HavePlannedSlot (at : CurrentSlot) (numbers : Numbers) (nodes : Nodes) : Type 0 where
  pub chosen : HaveChosen at.list.now at.script.now numbers nodes.chosen.items nodes.host_ends.items
  pub planned : HavePlanned (next_slot at.list.now at.script.now numbers) nodes.chosen.items 0 nodes.seats.items
  pub carries : CarriesFrames (next_slot at.list.now at.script.now numbers)
      (frames_in (next_slot at.list.now at.script.now numbers) nodes.chosen.items) nodes.medium

-- Hosts have written what they write in the slot, with these lines, and the slot is planned for whatever numbers the
-- nodes stood for.
pub record IsSlotPlanned (at : CurrentSlot) (old new : Nodes) (lines : List WriteLine) : Type 0 where
  pub are : ArePlannedNodes at new
  pub desks : new.desks ≡ old.desks
  pub bytes : AreBytesBefore at.list.now at.script.now (at.slot + 1)
  pub lines_are : lines ≡ writes_shown at.list.now at.script.now at.slot [] (writes_in at.script.now at.slot)
  pub plans : (numbers : Numbers) → NodesStandAt at.list.now at.script.now at.slot (nodes_view old) numbers
      → HavePlannedSlot at numbers new

-- the slot is planned for some numbers, and the rings that hosts read are those of the world of these
pub record MayEndSlot (at : CurrentSlot) (nodes : Nodes) : Type 0 where
  pub are : ArePlannedNodes at nodes
  pub numbers : Numbers
  pub count : length numbers ≡ at.slot
  pub planned : HavePlannedSlot at numbers nodes
  pub read : (k : ℕ) → k < length at.list.now.slots → (from : Source)
      → HoldsRead at.list.now at.script.now numbers (desk_ends nodes.desks.items) k from

-- the nodes are ready for its end
abbrev pub AreReady : CurrentSlot → Nodes → Type 0
AreReady at nodes = IsPartReady at.list.now at.script.now nodes.medium 0 nodes.seats.items nodes.desks.items

-- Once it has ended.

-- the controllers have ended it, and all else is as it was
pub record AllHaveEnded (at : CurrentSlot) (old new : Nodes) : Type 0 where
  pub host_ends : new.host_ends ≡ old.host_ends
  pub chosen : new.chosen ≡ old.chosen
  pub ended : HasPartEnded at.list.now at.script.now old.medium 0 old.seats.items new.seats.items old.desks.items
      new.desks.items

-- there is a place for each node between two slots again, and the slot has ended for whatever numbers it was planned
-- for
pub record IsSlotEnded (at : CurrentSlot) (old new : Nodes) : Type 0 where
  pub are : AreNodesOf at.list.now (at.slot + 1) new
  pub host_ends : new.host_ends ≡ old.host_ends
  pub ends : (numbers : Numbers) → HavePlannedSlot at numbers old
      → HaveEnded at.list.now at.script.now (world at.list.now at.script.now numbers) old.chosen.items 0
      new.seats.items

-- The controllers have handed on what the slot left, and hosts have read what these lines tell: each that reads by
-- readers that were lent before, which are settled after it. `first` are the readers as they were lent, `last` those
-- once they have read, and `handed` the controllers' ends before these are settled.
pub record TellsReads (at : CurrentSlot) (old new : Nodes) (lines : List ReadLine) : Type 0 where
  pub handed : List ControllerState
  pub first : List (Option ReadersState)
  pub last : List (Option ReadersState)
  pub handed_are : HaveHandedOn (outcomes_of new.seats.items) (desk_ends old.desks.items) handed
      (desk_numbers new.desks.items)
  pub lent : AreReadersLent (reads_in at.script.now at.slot) (desk_ends old.desks.items) first
  pub read : HaveRead (reads_in at.script.now at.slot) first last
  pub settles : SettlesReads handed last (desk_ends new.desks.items)
  pub told : AllGot (reads_in at.script.now at.slot) last → AreLinesOf (reads_in at.script.now at.slot) last lines

-- The nodes stand for these numbers and those in the report, which shows the world's slot for them, and where the older
-- ones were legal, all are.
pub record IsNextOf (list : Medl) (script : Script) (numbers : Numbers) (nodes : NodesView) (report : SlotReport)
    : Type 0 where
  pub stands : NodesStandFor list script nodes (report_numbers report ∷ numbers)
  pub shows : ShowsNext list script numbers report
  pub legal : IsLegal list script numbers → IsLegal list script (report_numbers report ∷ numbers)

-- Whatever numbers it stood for, it stands for these and those in its report, which shows the world's slot for
-- them, and where the older ones were legal, all are.

pub record IsNext (new : ClusterView) (numbers : Numbers) : Type 0 where
  pub stands : ClusterStandsFor new (report_numbers new.report ∷ numbers)
  pub shows : ShowsNext new.list new.script numbers new.report
  pub legal : IsLegal new.list new.script numbers → IsLegal new.list new.script (report_numbers new.report ∷ numbers)

abbrev pub ClusterSteps : ClusterView → ClusterView → Type 0
ClusterSteps old new = (numbers : Numbers) → ClusterStandsFor old numbers → IsNext new numbers
