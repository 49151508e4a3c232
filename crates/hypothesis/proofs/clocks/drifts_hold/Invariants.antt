use Rattle.hypothesis.proofs.Words.{◌≡◌, ℕ, ◌<◌, true, is_within_bound, drift_of}
use Rattle.hypothesis.proofs.clocks.drifts_hold.Given as goal

-- the drifts of the nodes so far are within it
abbrev pub invariant-loop-node : goal.invariant-loop-node
invariant-loop-node l = (k : ℕ) → k < l.node → is_within_bound l.list.drift (drift_of l.script k) ≡ true
