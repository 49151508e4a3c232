use Rattle.fault_runs.proofs.Words.{◌≡◌, false, take, list_any}
use Rattle.fault_runs.specs.Merging.{has_just_left}
use Rattle.fault_runs.proofs.whole.has_leave.Given as goal

-- none of those so far left
abbrev pub invariant-loop-state : goal.invariant-loop-state
invariant-loop-state l = list_any has_just_left (take l.state-index l.states) ≡ false
