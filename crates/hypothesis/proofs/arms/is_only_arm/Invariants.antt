use Rattle.hypothesis.proofs.Words.{◌≡◌, ◌+◌, drop}
use Rattle.std.specs.Prelude.{count_by}
use Rattle.ttp_world.specs.Returning.{is_arm_line}
use Rattle.hypothesis.proofs.arms.is_only_arm.Given as goal

-- those so far and those of the events that are left are all
abbrev pub invariant-loop-event : goal.invariant-loop-event
invariant-loop-event l =
    l.count + count_by (is_arm_line l.list l.slot) (drop l.event-index l.script.events)
    ≡ count_by (is_arm_line l.list l.slot) l.script.events
