use Rattle.picture_text.proofs.Words.{◌≡◌, ◌+◌, length, position_or_len}
use Rattle.picture_text.specs.Window.{is_sought}
use Rattle.picture_text.proofs.walk.first_sought.Given as goal

-- none of the slots so far is sought
abbrev pub invariant-loop-slot : goal.invariant-loop-slot
invariant-loop-slot l = record {
  slots : length l.initial.left ≡ l.passed + length l.left;
  sought : position_or_len (is_sought l.sought) l.initial.left ≡ l.passed + position_or_len (is_sought l.sought) l.left;
}

abbrev pub decreases-loop-slot : goal.decreases-loop-slot
decreases-loop-slot l = length l.left
