use Rattle.hypothesis.specs.FaultyRuns.{IsKeptAt}
use Rattle.view_tests.proofs.tests.texts.faulty.kept_after.Given as goal

-- the slots so far
abbrev pub invariant-loop-slot : goal.invariant-loop-slot
invariant-loop-slot l = IsKeptAt l.list l.script l.slot l.walk
