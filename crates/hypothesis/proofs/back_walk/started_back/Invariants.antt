use Rattle.hypothesis.proofs.Words.{◌≡◌, AreNewest, AreKeptFrom, told_start, HasWalked, back_course}
use Rattle.hypothesis.proofs.back_walk.started_back.Given as goal

-- the walk has gone over the slots so far, the newest are kept, and so is what happens from the next one on
abbrev pub invariant-loop-slot : goal.invariant-loop-slot
invariant-loop-slot l = record {
  end : l.newest.end ≡ l.slot;
  newest : AreNewest l.list l.script (told_start l.start) l.newest;
  walked : HasWalked l.list l.script (told_start l.start)
      (back_course l.list l.script (told_start l.start)) l.slot l.walk;
  kept : AreKeptFrom l.list l.script l.slot l.kept;
}
