use Rattle.hypothesis.proofs.Words.{◌≡◌, length, take, most_nodes, AreFirstJumps}
use Rattle.hypothesis.proofs.outside.first_jumps.Given as goal

-- the first jumps among the events so far
abbrev pub invariant-loop-event : goal.invariant-loop-event
invariant-loop-event l = (length l.slots ≡ most_nodes) × AreFirstJumps (take l.event-index l.script.events) l.slots
