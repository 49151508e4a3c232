use Rattle.hypothesis.specs.FaultyRuns.{IsBackAt}
use Rattle.view_tests.proofs.tests.texts.faulty.back_after.Given as goal

-- the slots so far
abbrev pub invariant-loop-slot : goal.invariant-loop-slot
invariant-loop-slot l = IsBackAt l.list l.script l.slot l.walk
