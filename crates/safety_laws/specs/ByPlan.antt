-- The invariant of a planned run: members and clocks together.
use Rattle.std.specs.Prelude.{ℕ}
use Rattle.ttp_world.specs.declared.medl.Medl.{Medl}
use Rattle.ttp_world.specs.declared.script.Script.{Script}
use Rattle.ttp_world.specs.Diary.{History}
use Rattle.ttp_world.specs.Hypothesis.{ClusterStart}
use Rattle.safety_laws.specs.Plan.{FaultPlan}
use Rattle.safety_laws.specs.NotedByPlan.{NotedByPlan}
use Rattle.safety_laws.specs.PlanTurn.{HoldsAfter}

-- after a turn each node of a world is what its fate says, and in each turn so far the nodes noted by the plan
pub record IsByPlan (list : Medl) (script : Script) (start : ClusterStart) (plan : FaultPlan) (turn : ℕ)
    (history : History)
    : Type 0 where
  pub holds : HoldsAfter list script plan turn history
  pub noted : NotedByPlan list script start plan turn history
