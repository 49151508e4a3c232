use Rattle.std.proofs.Common.{◌≡◌, ℕ, ◌<◌, ◌≤◌, false}
use Rattle.ttp_world.specs.Returning.{offers_place}
use Rattle.hypothesis.specs.FaultyRuns.{IsBackAt}
use Rattle.hypothesis.specs.Standing.{told_start}
use Rattle.broken_arms.proofs.reasons.is_offered.Given as goal

abbrev pub invariant-loop-at : goal.invariant-loop-at
invariant-loop-at l = record {
  walk : IsBackAt l.list l.script l.at l.walk;
  none : (t : ℕ) → l.slot ≤ t → t < l.at → offers_place l.list l.script (told_start l.start) l.node t ≡ false;
}
