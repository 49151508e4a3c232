-- A run of a planned script: how it begins, and where it stands after a turn.
use Rattle.std.specs.Prelude.{◌≡◌, ◌≢◌, ℕ, suc, ◌+◌, ◌<◌, true, false, length}
use Rattle.ttp_world.specs.declared.medl.Medl.{Medl}
use Rattle.ttp_world.specs.declared.script.Script.{Script}
use Rattle.ttp_world.specs.Diary.{History}
use Rattle.ttp_world.specs.Hypothesis.{ClusterStart, loses}
use Rattle.ttp_world.specs.Script.{is_on}
use Rattle.ttp_world.specs.Starts.{StartsAlone}
use Rattle.safety_laws.specs.Plan.{FaultPlan}
use Rattle.safety_laws.specs.Kept.{IsPlanOfFaults}
use Rattle.safety_laws.specs.Returned.{IsPlanOfReturns}
use Rattle.safety_laws.specs.PlanTurn.{HoldsAfter, IsPlannedRun}

-- a script follows a plan from the start of one node alone, whose frame comes to all that are on
pub record IsBegunAlone (list : Medl) (script : Script) (start : ClusterStart) (plan : FaultPlan) : Type 0 where
  pub planned : IsPlannedRun list script start plan
  pub alone : StartsAlone list script start
  pub heard : (k : ℕ) → k < length list.slots → k ≢ start.node → is_on script k start.slot ≡ true
      → loses script start.node start.slot k ≡ false

-- a history stands after a turn of a plan that the script follows, with each node as its fate says
pub record StandsAtTurn (list : Medl) (script : Script) (start : ClusterStart) (plan : FaultPlan) (turn : ℕ)
    (history : History)
    : Type 0 where
  pub planned : IsPlannedRun list script start plan
  pub number : length history ≡ suc (start.slot + turn)
  pub within : start.slot + turn < script.slots
  pub holds : HoldsAfter list script plan turn history

-- and the plan is that of the script's faulty nodes,
pub record StandsWithFaults (list : Medl) (script : Script) (start : ClusterStart) (plan : FaultPlan) (turn : ℕ)
    (history : History) : Type 0 where
  pub stands : StandsAtTurn list script start plan turn history
  pub faults : IsPlanOfFaults list script start plan

-- or that of its faulty nodes and its arm lines
pub record StandsBack (list : Medl) (script : Script) (start : ClusterStart) (plan : FaultPlan) (turn : ℕ)
    (history : History) : Type 0 where
  pub stands : StandsAtTurn list script start plan turn history
  pub returns : IsPlanOfReturns list script start plan
