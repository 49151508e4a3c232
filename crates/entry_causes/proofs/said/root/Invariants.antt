use Rattle.std.proofs.Common.{◌≡◌, ◌<◌, ◌≤◌, length}
use Rattle.causes.specs.Said.{root}
use Rattle.run_rows.specs.Rows.{past_slots}
use Rattle.entry_causes.proofs.said.root.Given as goal

-- it is that of this node before here
abbrev pub invariant-loop-at : goal.invariant-loop-at
invariant-loop-at l = record {
  is : root l.node (past_slots l.run l.before) ≡ root l.who (past_slots l.run l.at);
  node : l.who < length l.run.list.slots;
  within : l.at ≤ l.before;
}

abbrev pub decreases-loop-at : goal.decreases-loop-at
decreases-loop-at l = l.at
