use Rattle.hypothesis.proofs.Words.{◌≡◌, ℕ, ◌<◌, ◌≤◌, length, false, nat_lt, ClusterStart, AreNewest, joined_in}
use Rattle.hypothesis.proofs.arms.is_apart.Given as goal

-- in the slots so far nobody does
abbrev pub invariant-loop-at : goal.invariant-loop-at
invariant-loop-at l =
    (start : ClusterStart) → AreNewest l.list l.script start l.newest
    → (t : ℕ) → t < l.at → l.from ≤ t → nat_lt 0 (length (joined_in l.list l.script start t)) ≡ false
