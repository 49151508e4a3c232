use Rattle.std.proofs.Common.{◌≡◌, ◌++◌, ◌≤◌}
use Rattle.causes.specs.Judged.{doubt_entries}
use Rattle.run_rows.specs.Rows.{past_slots}
use Rattle.entry_causes.proofs.judged.add_doubt_entries.Given as goal

-- those so far, with those before here
abbrev pub invariant-loop-at : goal.invariant-loop-at
invariant-loop-at l = record {
  lines : l.out.lines ≡ l.initial.out.lines;
  entries : l.out.entries ++ doubt_entries l.node (past_slots l.run l.at)
      ≡ l.initial.out.entries ++ doubt_entries l.node (past_slots l.run l.before);
  within : l.at ≤ l.before;
}

abbrev pub decreases-loop-at : goal.decreases-loop-at
decreases-loop-at l = l.at
