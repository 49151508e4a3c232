use Rattle.run_costs.specs.FaultyAt.{IsFaultyAt}
use Rattle.run_costs.proofs.seen_costs.faulty.Faulty.after.Given as goal

-- the slots so far
abbrev pub invariant-loop-slot : goal.invariant-loop-slot
invariant-loop-slot l = IsFaultyAt l.list l.script l.slot l.faulty
