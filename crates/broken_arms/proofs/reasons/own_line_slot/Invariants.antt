use Rattle.std.proofs.Common.{◌≡◌}
use Rattle.std.specs.List.{filter_map}
use Rattle.std.specs.Prelude.{drop}
use Rattle.ttp_world.specs.Hypothesis.{least_of}
use Rattle.broken_arms.specs.Arms.{own_event_slot}
use Rattle.broken_arms.proofs.reasons.own_line_slot.Given as goal

-- that of the events from this place on
abbrev pub invariant-loop-place : goal.invariant-loop-place
invariant-loop-place l =
    l.least ≡ least_of (filter_map (own_event_slot l.list l.node l.slot) (drop l.place l.script.events))
