-- A plan of faults: what an argument on safety asks of a run, slot by slot, whatever hypothesis its script keeps.
--
-- A plan counts slots from the start: its slot 0 is the slot of the start.
use Rattle.std.specs.Prelude.{ℕ, ◌+◌, ◌-◌, ◌%◌, nat_lt, Bool, ◌&&◌, ◌==◌, List, [], map, length, filter, find, Option}
use Rattle.std.specs.Prelude.{if◌then◌else◌}
use Rattle.std.specs.List.{list_any}
use Rattle.ttp_world.specs.declared.medl.Medl.{Medl}
use Rattle.ttp_world.specs.declared.script.Script.{Script}
use Rattle.ttp_world.specs.Hypothesis.{ClusterStart, FaultyNode, nodes_of, expected_sender, faulty_nodes_before}
use Rattle.ttp_world.specs.Medl.{plan_at}
use Rattle.ttp_world.specs.Script.{is_ever_on, has_jump}

-- How a node is lost: all others lose the frame of its slot, it alone loses another's, or its clock jumps.
pub data Change : Type 0 where
  Sending : Change
  Receiving : Change
  Jumping : Change

-- a node is lost in a slot
pub record Incident : Type 0 where
  pub slot : ℕ
  pub node : ℕ
  pub change : Change

-- A lost node returns: from the beginning of a slot on it listens again, and in a slot, the same or a later one, it
-- enters. One that would enter after the run's end does not enter.
pub record Return : Type 0 where
  pub node : ℕ
  pub armed : ℕ
  pub entered : ℕ

-- a plan of faults; slots are counted from the start
pub record FaultPlan : Type 0 where
  -- how many nodes take turns
  pub nodes : ℕ
  -- the node whose slot the start is
  pub starter : ℕ
  -- how many slots the run has from the start on
  pub slots : ℕ
  -- the nodes that are sound when the start begins
  pub begin : List ℕ
  -- the nodes by whose frames clocks are measured
  pub measured : List ℕ
  -- the newest first
  pub incidents : List Incident
  -- in any order
  pub returns : List Return

-- whose slot it is
abbrev pub sender : FaultPlan → ℕ → ℕ
sender plan slot = (plan.starter + slot) % plan.nodes

-- an incident is of a slot
abbrev pub is_in_slot : ℕ → Incident → Bool
is_in_slot slot incident = incident.slot == slot

-- the incident of a slot, if there is one
abbrev pub incident_at : FaultPlan → ℕ → Option Incident
incident_at plan slot = find (is_in_slot slot) plan.incidents

-- a return of node k begins in a slot
abbrev pub is_armed_there : ℕ → ℕ → Return → Bool
is_armed_there slot k r = (r.armed == slot) && (r.node == k)

-- one of node k ends in a slot
abbrev pub enters_there : ℕ → ℕ → Return → Bool
enters_there slot k r = (r.entered == slot) && (r.node == k)

-- node k listens again from a slot on
abbrev pub is_armed_by : FaultPlan → ℕ → ℕ → Bool
is_armed_by plan slot k = list_any (is_armed_there slot k) plan.returns

-- node k enters in a slot
abbrev pub enters : FaultPlan → ℕ → ℕ → Bool
enters plan slot k = list_any (enters_there slot k) plan.returns && nat_lt slot plan.slots

-- The plan of the single-fault hypothesis, by which no node returns.

-- how a node became faulty
abbrev pub change_of : Medl → Script → ClusterStart → FaultyNode → Change
change_of list script start faulty =
    if has_jump script faulty.node faulty.slot then Jumping
    else (if expected_sender list start faulty.slot == faulty.node then Sending else Receiving)

-- an incident of the plan: a node that became faulty, how, and in which slot from the start on
abbrev pub planned_incident : Medl → Script → ClusterStart → FaultyNode → Incident
planned_incident list script start faulty = record {
  slot = faulty.slot - start.slot;
  node = faulty.node;
  change = change_of list script start faulty;
}

-- the plan of the nodes that the hypothesis calls faulty, of whom none returns
abbrev pub fault_plan_of : Medl → Script → ClusterStart → FaultPlan
fault_plan_of list script start = record {
  nodes = length list.slots;
  starter = start.node;
  slots = script.slots - start.slot;
  begin = filter (is_ever_on script) (nodes_of list);
  measured = filter (λ k. (plan_at list k).sync) (nodes_of list);
  incidents = map (planned_incident list script start) (faulty_nodes_before list script start script.slots);
  returns = [];
}
