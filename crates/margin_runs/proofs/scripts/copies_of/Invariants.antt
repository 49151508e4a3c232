use Rattle.std.proofs.Common.{◌≡◌, take}
use Rattle.margin_runs.proofs.scripts.copies_of.Given as goal

-- the events so far
abbrev pub invariant-loop-event : goal.invariant-loop-event
invariant-loop-event l = l.all ≡ take l.event-index l.events
