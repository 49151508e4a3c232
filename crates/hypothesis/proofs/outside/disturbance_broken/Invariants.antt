use Rattle.hypothesis.proofs.Words.{◌≡◌, drop, filter_map, least_of, disturbed_slot, disturbance_broken}
use Rattle.hypothesis.proofs.Least.{lesser_of}
use Rattle.hypothesis.proofs.outside.disturbance_broken.Given as goal

-- the least so far and that of the events that are left is that of all
abbrev pub invariant-loop-event : goal.invariant-loop-event
invariant-loop-event l =
    lesser_of l.least (least_of (filter_map (disturbed_slot l.list l.script) (drop l.event-index l.script.events)))
    ≡ disturbance_broken l.list l.script
