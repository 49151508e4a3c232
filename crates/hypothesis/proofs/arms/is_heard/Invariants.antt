use Rattle.hypothesis.proofs.Words.{◌≡◌, ℕ, ◌<◌, ◌≤◌, false, is_missed_in, told_start}
use Rattle.hypothesis.proofs.arms.is_heard.Given as goal

-- in none of the slots so far
abbrev pub invariant-loop-at : goal.invariant-loop-at
invariant-loop-at l =
    (t : ℕ) → t < l.at → l.slot ≤ t → is_missed_in l.list l.script (told_start l.start) l.node t ≡ false
