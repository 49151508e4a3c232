-- The place of each slot of a plan in the cluster cycle.
use Rattle.std.specs.Prelude.{ℕ, zero, suc}
use Rattle.ttp_world.specs.declared.medl.Medl.{Medl}
use Rattle.ttp_world.specs.Diary.{Place, start_place, next_place}
use Rattle.safety_laws.specs.Plan.{FaultPlan}

-- counted from the cold start
abbrev pub planned_place : Medl → FaultPlan → ℕ → Place
planned_place list plan zero = start_place plan.starter
planned_place list plan (suc slot) = next_place list (planned_place list plan slot)
