use Rattle.fault_runs.proofs.Words.{◌≡◌, true, filter, below}
use Rattle.fault_runs.proofs.whole.everyone.Given as goal

-- those so far
abbrev pub invariant-loop-node : goal.invariant-loop-node
invariant-loop-node l = l.all ≡ filter (λ _. true) (below l.node)
