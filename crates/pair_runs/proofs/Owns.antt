-- Runs that are of a list, whatever they have done.
use Rattle.std.proofs.Common.{ℕ}
use Rattle.ttp_world.specs.declared.medl.Medl.{Medl}
use Rattle.ttp_world.specs.declared.script.Script.{Script}
use Rattle.run_costs.specs.declared.seen_run.SeenRun.{SeenRun}
use Rattle.run_costs.specs.Standing.{IsRunOfList, IsSeenAfter}
use Rattle.fault_runs.specs.declared.own.OwnRun.{OwnRun}
use Rattle.fault_runs.specs.Tries.{IsOwnAfter, IsOwnOf}

pub seen-of : (run : SeenRun) (list : Medl) (script : Script) (slots : ℕ) → IsSeenAfter run list script slots
    → IsRunOfList run.run list
seen-of run list script slots is = record { same = is.stands.same; zeros = is.stands.zeros }

pub own-of : (own : OwnRun) (list : Medl) (script : Script) (slots : ℕ)
    → IsOwnAfter own list script slots → IsOwnOf own list
own-of own list script slots is = record {
  run = seen-of own.run list script slots is.run;
  before = seen-of own.before list script own.before.slots is.before;
}
