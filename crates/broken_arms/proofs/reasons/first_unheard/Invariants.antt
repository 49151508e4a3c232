use Rattle.std.proofs.Common.{◌≡◌, ℕ, ◌<◌, ◌≤◌, None}
use Rattle.hypothesis.specs.FaultyRuns.{IsBackAt}
use Rattle.hypothesis.specs.Standing.{told_start}
use Rattle.broken_arms.specs.Arms.{unheard_in}
use Rattle.broken_arms.proofs.reasons.first_unheard.Given as goal

abbrev pub invariant-loop-at : goal.invariant-loop-at
invariant-loop-at l = record {
  walk : IsBackAt l.list l.script l.at l.walk;
  heard : (t : ℕ) → l.slot ≤ t → t < l.at → unheard_in l.list l.script (told_start l.start) l.node t ≡ None;
}
