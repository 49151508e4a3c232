use Rattle.std.proofs.Common.{◌-◌, ◌≤◌, take}
use Rattle.causes.specs.Sources.{only_entries}
use Rattle.entry_causes.proofs.Remaining.{AddsBut}
use Rattle.entry_causes.specs.Told.{settled_in}
use Rattle.run_rows.specs.Rows.{past_slots}
use Rattle.entry_causes.proofs.own.add_settled_doubts.Given as goal

-- those of the slots before here are left
abbrev pub invariant-loop-at : goal.invariant-loop-at
invariant-loop-at l = record {
  adds : AddsBut l.initial.out l.out
      (only_entries (settled_in l.node (take (l.before - l.from) (past_slots l.run l.before))))
      (only_entries (settled_in l.node (take (l.at - l.from) (past_slots l.run l.at))));
  within : l.at ≤ l.before;
}

abbrev pub decreases-loop-at : goal.decreases-loop-at
decreases-loop-at l = l.at
