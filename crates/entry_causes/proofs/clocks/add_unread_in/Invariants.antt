use Rattle.std.proofs.Common.{◌≡◌, ◌++◌, ◌-◌, ◌≤◌, take}
use Rattle.entry_causes.specs.Notes.{unread_in}
use Rattle.run_rows.specs.Rows.{past_slots}
use Rattle.entry_causes.proofs.clocks.add_unread_in.Given as goal

-- those so far, with those before here
abbrev pub invariant-loop-at : goal.invariant-loop-at
invariant-loop-at l = record {
  lines : l.out.lines ≡ l.initial.out.lines;
  entries : l.out.entries
      ++ unread_in l.run.list l.node l.stint (take (l.at - l.from) (past_slots l.run l.at))
      ≡ l.initial.out.entries
      ++ unread_in l.run.list l.node l.stint (take (l.before - l.from) (past_slots l.run l.before));
  within : l.at ≤ l.before;
}

abbrev pub decreases-loop-at : goal.decreases-loop-at
decreases-loop-at l = l.at
