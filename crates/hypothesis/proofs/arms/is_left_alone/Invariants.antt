use Rattle.hypothesis.proofs.Words.{◌≡◌, drop, list_any}
use Rattle.ttp_world.specs.Returning.{is_line_of}
use Rattle.hypothesis.proofs.arms.is_left_alone.Given as goal

-- what the events that are left say all of them do
abbrev pub invariant-loop-event : goal.invariant-loop-event
invariant-loop-event l =
    list_any (is_line_of l.list l.node l.slot) (drop l.event-index l.script.events)
    ≡ list_any (is_line_of l.list l.node l.slot) l.script.events
