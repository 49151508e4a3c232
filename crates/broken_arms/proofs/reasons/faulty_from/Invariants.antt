use Rattle.hypothesis.specs.FaultyRuns.{IsBackAt}
use Rattle.hypothesis.specs.Standing.{told_start}
use Rattle.broken_arms.specs.Since.{IsSince}
use Rattle.broken_arms.proofs.reasons.faulty_from.Given as goal

abbrev pub invariant-loop-at : goal.invariant-loop-at
invariant-loop-at l = record {
  walk : IsBackAt l.list l.script l.at l.walk;
  since : IsSince l.list l.script (told_start l.start) l.node l.at l.since;
}
