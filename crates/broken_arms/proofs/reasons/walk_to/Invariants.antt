use Rattle.hypothesis.specs.FaultyRuns.{IsBackAt}
use Rattle.broken_arms.proofs.reasons.walk_to.Given as goal

abbrev pub invariant-loop-at : goal.invariant-loop-at
invariant-loop-at l = IsBackAt l.list l.script l.at l.walk
