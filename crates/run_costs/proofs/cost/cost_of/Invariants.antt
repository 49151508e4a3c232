use Rattle.run_costs.specs.Standing.{IsSeenAfter}
use Rattle.run_costs.proofs.cost.cost_of.Given as goal

-- the run so far
abbrev pub invariant-loop-slot : goal.invariant-loop-slot
invariant-loop-slot l = IsSeenAfter l.run l.list l.script l.slot
