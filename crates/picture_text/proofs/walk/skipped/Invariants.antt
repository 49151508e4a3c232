use Rattle.picture_text.proofs.Words.{◌≡◌, drop}
use Rattle.picture_text.proofs.walk.skipped.Given as goal

-- the slots so far are behind
abbrev pub invariant-loop-passed : goal.invariant-loop-passed
invariant-loop-passed l = l.left ≡ drop l._passed l.initial.left
