use Rattle.script_gen.proofs.Words.{◌≡◌, ℕ, ◌<◌, false, may_start}
use Rattle.script_gen.proofs.faults.starter_of.Given as goal

-- none of the nodes so far may start
abbrev pub invariant-loop-node : goal.invariant-loop-node
invariant-loop-node l = (k : ℕ) → k < l.node → may_start l.list k ≡ false
