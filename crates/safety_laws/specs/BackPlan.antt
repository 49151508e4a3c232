-- The plan of faults of a script whose armed nodes are guaranteed their places again.
use Rattle.std.specs.Prelude.{◌≡◌, ◌≢◌, ℕ, suc, ◌+◌, ◌-◌, ◌<◌, ◌≤◌, true, false, map, length, filter, find}
use Rattle.std.specs.Prelude.{Option, Some, None, unwrap_or}
use Rattle.std.specs.List.{filter_map}
use Rattle.ttp_world.specs.declared.medl.Medl.{Medl}
use Rattle.ttp_world.specs.declared.script.Event.{Event}
use Rattle.ttp_world.specs.declared.script.Event.TheVariants as event
use Rattle.ttp_world.specs.declared.script.Script.{Script}
use Rattle.ttp_world.specs.Hypothesis.{ClusterStart, nodes_of, start_of, loses}
use Rattle.ttp_world.specs.Medl.{plan_at}
use Rattle.ttp_world.specs.Returning.{joinings, slots_before, two_rounds, run_slots, offers_place}
use Rattle.ttp_world.specs.Script.{is_ever_on, is_on, is_armed}
use Rattle.ttp_world.specs.Starts.{StartsAlone}
use Rattle.safety_laws.specs.Plan.{Return, FaultPlan, is_armed_by, planned_incident}
use Rattle.safety_laws.specs.Kept.{FollowsWithin}
use Rattle.safety_laws.specs.Returned.{IsPlanOfReturns}

-- the slot in which node k enters that is armed in a slot: the first in which another node offers a place, and two
-- rounds later where the run ends before one does
abbrev pub entry_slot : Medl → Script → ClusterStart → ℕ → ℕ → ℕ
entry_slot list script start k slot =
    unwrap_or (find (offers_place list script start k) (run_slots script slot (two_rounds list)))
    (slot + two_rounds list)

-- the return of an arm line
abbrev pub return_of : Medl → Script → ClusterStart → Event → Option Return
return_of list script start (event.Arm node slot) = Some (record {
  node = node;
  armed = slot - start.slot;
  entered = entry_slot list script start node slot - start.slot;
})
return_of list script start _ = None

-- each time that a node becomes faulty is an incident, and each arm line a return
abbrev pub back_plan_of : Medl → Script → ClusterStart → FaultPlan
back_plan_of list script start = record {
  nodes = length list.slots;
  starter = start.node;
  slots = script.slots - start.slot;
  begin = filter (is_ever_on script) (nodes_of list);
  measured = filter (λ k. (plan_at list k).sync) (nodes_of list);
  incidents = map (planned_incident list script start) (joinings (slots_before list script start script.slots));
  returns = filter_map (return_of list script start) script.events;
}

-- A script whose test says that its armed nodes are guaranteed their places follows its plan.
pub record ReturnsByPlan (list : Medl) (script : Script) (slot : ℕ) : Type 0 where
  pub start : ClusterStart
  pub started : start_of list script ≡ Some start
  pub from : start.slot ≡ slot
  -- one node starts alone, and all that are ever on are on by then
  pub alone : StartsAlone list script start
  pub on : (k : ℕ) → k < length list.slots → is_ever_on script k ≡ true → is_on script k start.slot ≡ true
  -- no node is armed until the start, and then where the plan says so
  pub early : (k slot : ℕ) → k < length list.slots → slot ≤ start.slot → is_armed script k slot ≡ false
  pub arms : (k turn : ℕ) → k < length list.slots
      → is_armed script k (start.slot + suc turn) ≡ is_armed_by (back_plan_of list script start) (suc turn) k
  pub follows : FollowsWithin list script start (back_plan_of list script start)
  pub returns : IsPlanOfReturns list script start (back_plan_of list script start)
  -- each other node that is on then hears the cold start undisturbed on some channel
  pub heard : (k : ℕ) → start.slot < script.slots → k < length list.slots → k ≢ start.node
      → is_on script k start.slot ≡ true → loses script start.node start.slot k ≡ false
