use Rattle.fault_runs.proofs.Words.{◌≡◌, take, entries_of}
use Rattle.fault_runs.proofs.put.row_of.Given as goal

-- of the nodes so far
abbrev pub invariant-loop-state : goal.invariant-loop-state
invariant-loop-state l = l.row ≡ entries_of (take l.state-index l.states)
