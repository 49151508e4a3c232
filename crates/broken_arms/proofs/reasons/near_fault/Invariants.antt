use Rattle.std.proofs.Common.{◌≡◌, None}
use Rattle.std.specs.List.{find}
use Rattle.hypothesis.specs.FaultyRuns.{IsBackAt}
use Rattle.hypothesis.specs.Standing.{told_start}
use Rattle.broken_faults.specs.Faults.{faults_before}
use Rattle.broken_arms.proofs.Near.{lies_near}
use Rattle.broken_arms.proofs.reasons.near_fault.Given as goal

-- no fault of the slots so far lies near
abbrev pub invariant-loop-at : goal.invariant-loop-at
invariant-loop-at l = record {
  walk : IsBackAt l.list l.script l.at l.walk;
  away : find (lies_near l.list l.slot) (faults_before l.list l.script (told_start l.fn.start) l.at) ≡ None;
}
