use Rattle.std.proofs.Common.{◌≡◌, ◌++◌, ◌<◌, ◌≤◌, length}
use Rattle.causes.specs.Said.{path}
use Rattle.run_rows.specs.Rows.{past_slots}
use Rattle.entry_causes.proofs.said.add_path.Given as goal

-- those so far, with those of this node before here
abbrev pub invariant-loop-at : goal.invariant-loop-at
invariant-loop-at l = record {
  lines : l.out.lines ≡ l.initial.out.lines;
  entries : l.out.entries ++ path l.who (past_slots l.run l.at)
      ≡ l.initial.out.entries ++ path l.node (past_slots l.run l.before);
  node : l.who < length l.run.list.slots;
  within : l.at ≤ l.before;
}

abbrev pub decreases-loop-at : goal.decreases-loop-at
decreases-loop-at l = l.at
