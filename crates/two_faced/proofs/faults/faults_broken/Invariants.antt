use Rattle.two_faced.proofs.Words.{◌≡◌, filter_map, first_fault_slot, faults_broken}
use Rattle.std.proofs.Common.{drop}
use Rattle.ttp_world.specs.Hypothesis.{least_of}
use Rattle.two_faced.proofs.FromBelow.{lesser_of}
use Rattle.two_faced.proofs.faults.faults_broken.Given as goal

-- the least so far and that of the events that are left is that of all
abbrev pub invariant-loop-event : goal.invariant-loop-event
invariant-loop-event l =
    lesser_of l.least (least_of (filter_map first_fault_slot (drop l.event-index l.script.events)))
    ≡ faults_broken l.script
