use Rattle.hypothesis.proofs.Words.{◌≡◌, ℕ, ◌<◌, ◌≤◌, false, offers_place, told_start}
use Rattle.hypothesis.proofs.arms.is_offered.Given as goal

-- in none of the slots so far
abbrev pub invariant-loop-at : goal.invariant-loop-at
invariant-loop-at l =
    (t : ℕ) → t < l.at → l.slot ≤ t → offers_place l.list l.script (told_start l.start) l.node t ≡ false
