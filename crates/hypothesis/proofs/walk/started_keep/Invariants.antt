use Rattle.hypothesis.proofs.Words.{AreKeptFrom, told_start, HasWalked, keep_course}
use Rattle.hypothesis.proofs.walk.started_keep.Given as goal

-- the walk has gone over the slots so far, and what is kept is so from the next one on
abbrev pub invariant-loop-slot : goal.invariant-loop-slot
invariant-loop-slot l = record {
  walked :
      HasWalked l.list l.script (told_start l.start) (keep_course l.list l.script (told_start l.start)) l.slot l.walk;
  kept : AreKeptFrom l.list l.script l.slot l.kept;
}
