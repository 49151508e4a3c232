use Rattle.std.proofs.Common.{◌≡◌, ◌<◌, ◌≤◌, length}
use Rattle.causes.specs.Said.{said}
use Rattle.run_rows.specs.Rows.{past_slots}
use Rattle.entry_causes.proofs.said.said.Given as goal

-- it is what this node said before here
abbrev pub invariant-loop-at : goal.invariant-loop-at
invariant-loop-at l = record {
  is : said l.node l.of (past_slots l.run l.before) ≡ said l.who l.of (past_slots l.run l.at);
  node : l.who < length l.run.list.slots;
  within : l.at ≤ l.before;
}

abbrev pub decreases-loop-at : goal.decreases-loop-at
decreases-loop-at l = l.at
