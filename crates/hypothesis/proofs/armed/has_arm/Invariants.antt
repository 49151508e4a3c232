use Rattle.hypothesis.proofs.Words.{◌≡◌, drop, list_any}
use Rattle.ttp_world.specs.Returning.{is_arm}
use Rattle.hypothesis.proofs.armed.has_arm.Given as goal

-- what the events that are left say all of them do
abbrev pub invariant-loop-event : goal.invariant-loop-event
invariant-loop-event l = list_any is_arm (drop l.event-index l.script.events) ≡ list_any is_arm l.script.events
