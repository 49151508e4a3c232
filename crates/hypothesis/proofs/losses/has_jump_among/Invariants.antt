use Rattle.hypothesis.proofs.Words.{◌≡◌, false, take, is_some, list_any, jump_in}
use Rattle.hypothesis.proofs.losses.has_jump_among.Given as goal

-- none of the events so far is
abbrev pub invariant-loop-event : goal.invariant-loop-event
invariant-loop-event l = list_any (λ e. is_some (jump_in l.node l.slot e)) (take l.event-index l.events) ≡ false
