use Rattle.std.proofs.Common.{◌≡◌, ℕ, ◌<◌, false}
use Rattle.ttp_world.specs.Returning.{breaks_back_in}
use Rattle.hypothesis.specs.FaultyRuns.{IsBackAt}
use Rattle.hypothesis.specs.Standing.{told_start}
use Rattle.broken_faults.proofs.losses.lost_frame.Given as goal

-- no slot so far breaks the rule
abbrev pub invariant-loop-slot : goal.invariant-loop-slot
invariant-loop-slot l = record {
  walk : IsBackAt l.list l.script l.slot l.walk;
  whole : (t : ℕ) → t < l.slot → breaks_back_in l.list l.script (told_start l.start) t ≡ false;
}
