use Rattle.std.proofs.Common.{◌≡◌, ℕ, ◌<◌, ◌≤◌, false}
use Rattle.ttp_world.specs.Returning.{lacks_four_after}
use Rattle.hypothesis.specs.Standing.{told_start}
use Rattle.broken_faults.specs.Seen.{IsSeenAt}
use Rattle.broken_faults.proofs.few.few_since.Given as goal

-- after none of the slots so far fewer are left
abbrev pub invariant-loop-slot : goal.invariant-loop-slot
invariant-loop-slot l = record {
  seen : IsSeenAt l.list l.script (told_start l.start) l.slot l.seen;
  enough : (t : ℕ) → l.start.slot ≤ t → t < l.slot → lacks_four_after l.list l.script (told_start l.start) t ≡ false;
}
