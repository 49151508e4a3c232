use Rattle.std.proofs.Common.{◌≡◌, ◌++◌, ◌≤◌}
use Rattle.causes.specs.RunSlots.{judged_since_own}
use Rattle.run_looks.specs.Back.{is_among_verdicts}
use Rattle.run_rows.specs.Rows.{past_slots}
use Rattle.run_looks.proofs.back.add_judged_since_own.Given as goal

-- those so far, with those before here
abbrev pub invariant-loop-at : goal.invariant-loop-at
invariant-loop-at l = record {
  lines : l.out.lines ≡ l.initial.out.lines;
  entries : l.out.entries ++ judged_since_own (is_among_verdicts l.verdicts) l.node (past_slots l.run l.at)
      ≡ l.initial.out.entries
      ++ judged_since_own (is_among_verdicts l.verdicts) l.node (past_slots l.run l.before);
  within : l.at ≤ l.before;
}

abbrev pub decreases-loop-at : goal.decreases-loop-at
decreases-loop-at l = l.at
