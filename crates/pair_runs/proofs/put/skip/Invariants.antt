use Rattle.fault_runs.specs.Tries.{IsOwnAfter}
use Rattle.pair_runs.proofs.put.skip.Given as goal

-- the run so far
abbrev pub invariant-loop-slot : goal.invariant-loop-slot
invariant-loop-slot l = IsOwnAfter l.own l.list l.script l.slot
