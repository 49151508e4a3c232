use Rattle.fault_runs.proofs.Words.{◌≡◌, take, map, tried_of}
use Rattle.run_costs.specs.Standing.{IsRunOfList}
use Rattle.fault_runs.proofs.tried.add_each.Given as goal

-- the runs of the faults so far
abbrev pub invariant-loop-fault : goal.invariant-loop-fault
invariant-loop-fault l =
    (l.all.items ≡ map (tried_of l.common.list.now l.common.script.now) (take l.fault-index l.faults))
    × IsRunOfList l.run.run l.common.list.now
