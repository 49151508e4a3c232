use Rattle.hypothesis.proofs.Words.{◌≡◌, ℕ, ◌<◌, false, is_deaf}
use Rattle.hypothesis.proofs.arms.is_any_deaf.Given as goal

-- none of the nodes so far
abbrev pub invariant-loop-node : goal.invariant-loop-node
invariant-loop-node l = (k : ℕ) → k < l.node → is_deaf l.script l.faulty l.slot k ≡ false
