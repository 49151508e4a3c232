use Rattle.hypothesis.proofs.Words.{◌≡◌, ℕ, ◌<◌, false, fails_if_armed, is_armed, told_start}
use Rattle.hypothesis.proofs.arms.breaks_arm_in.Given as goal

-- none of the nodes so far
abbrev pub invariant-loop-node : goal.invariant-loop-node
invariant-loop-node l =
    (k : ℕ) → k < l.node
    → fails_if_armed l.list l.script (told_start l.start) k l.slot (is_armed l.script k l.slot) ≡ false
