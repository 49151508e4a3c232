use Rattle.hypothesis.specs.Standing.{told_start}
use Rattle.broken_faults.specs.Seen.{IsSeenAt}
use Rattle.broken_faults.proofs.few.seen_before.Given as goal

abbrev pub invariant-loop-slot : goal.invariant-loop-slot
invariant-loop-slot l = IsSeenAt l.list l.script (told_start l.start) l.slot l.seen
