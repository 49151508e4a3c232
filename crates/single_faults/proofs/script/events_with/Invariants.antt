use Rattle.std.proofs.Common.{◌≡◌, take}
use Rattle.single_faults.proofs.script.events_with.Given as goal

-- the events so far
abbrev pub invariant-loop-event : goal.invariant-loop-event
invariant-loop-event l = l.all ≡ take l.event-index l.events
