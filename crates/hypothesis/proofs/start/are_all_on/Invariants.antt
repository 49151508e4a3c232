use Rattle.hypothesis.proofs.Words.{◌≡◌, ℕ, ◌<◌, true, not, ◌||◌, is_ever_on, is_on}
use Rattle.hypothesis.proofs.start.are_all_on.Given as goal

-- the nodes so far are
abbrev pub invariant-loop-node : goal.invariant-loop-node
invariant-loop-node l = (k : ℕ) → k < l.node → (not (is_ever_on l.script k) || is_on l.script k l.slot) ≡ true
