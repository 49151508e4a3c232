use Rattle.hypothesis.proofs.Words.{◌≡◌, false, take, list_any, is_jump_within}
use Rattle.hypothesis.proofs.losses.has_jump_within.Given as goal

-- none of the events so far is
abbrev pub invariant-loop-event : goal.invariant-loop-event
invariant-loop-event l = list_any (is_jump_within l.fn.from l.fn.until) (take l.event-index l.events) ≡ false
