use Rattle.run_costs.specs.Standing.{IsSeenAfter}
use Rattle.fault_runs.proofs.merged.cost_on.Given as goal

-- the run so far
abbrev pub invariant-loop-next : goal.invariant-loop-next
invariant-loop-next l = IsSeenAfter l.run l.list l.script l.next
