use Rattle.hypothesis.proofs.Words.{◌≡◌, ℕ, ◌<◌, false, breaks_arm_in, AreKeptFrom, told_start}
use Rattle.hypothesis.proofs.back_walk.late_arms_broken.Given as goal

-- none of the slots so far is one, and what is kept of the nodes is so from the next one on
abbrev pub invariant-loop-slot : goal.invariant-loop-slot
invariant-loop-slot l = record {
  fine : (t : ℕ) → t < l.slot → breaks_arm_in l.list l.script (told_start l.start) t ≡ false;
  kept : AreKeptFrom l.list l.script l.slot l.kept;
}
