use Rattle.fault_runs.proofs.Words.{ℕ, ◌+◌, ◌<◌, ◌≤◌, zeros_world}
use Rattle.run_costs.specs.Standing.{IsSeenAfter}
use Rattle.fault_runs.specs.Merging.{HasSettledAt}
use Rattle.fault_runs.proofs.whole.whole_of.Given as goal

-- the run so far, and from which slot on it is settled
abbrev pub invariant-loop-slot : goal.invariant-loop-slot
invariant-loop-slot l =
    IsSeenAfter l.run l.list l.script l.slot
    × ((t : ℕ) → l.settled ≤ t → t < l.slot → HasSettledAt l.list (zeros_world l.list l.script (t + 1)))
