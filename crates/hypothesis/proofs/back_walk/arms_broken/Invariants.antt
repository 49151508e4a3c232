use Rattle.hypothesis.proofs.Words.{◌≡◌, ℕ, ◌+◌, ◌-◌, ◌≤◌, false, numbers_of, four_rounds, slots_before, faulty_since}
use Rattle.hypothesis.proofs.Words.{breaks_arm_in, AreNewest, AreKeptFrom, told_start, HaveSameNodes}
use Rattle.hypothesis.proofs.back_walk.arms_broken.Given as goal

-- the newest of the slots so far are kept, those that four rounds have followed are fine, and what is kept of the
-- nodes is so from the next slots on
abbrev pub invariant-loop-slot : goal.invariant-loop-slot
invariant-loop-slot l = record {
  end : l.newest.end ≡ l.slot;
  newest : AreNewest l.list l.script (told_start l.start) l.newest;
  faulty : HaveSameNodes l.faulty
      (numbers_of (faulty_since (slots_before l.list l.script (told_start l.start) l.slot)));
  fine : (t : ℕ) → t + four_rounds l.list ≤ l.slot → breaks_arm_in l.list l.script (told_start l.start) t ≡ false;
  kept : AreKeptFrom l.list l.script l.slot l.kept;
  arms : AreKeptFrom l.list l.script (l.slot + 1 - four_rounds l.list) l.arms;
}
