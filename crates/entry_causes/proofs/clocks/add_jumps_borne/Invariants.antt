use Rattle.std.proofs.Common.{◌≡◌, ◌++◌, ◌<◌, ◌≤◌, length}
use Rattle.causes.specs.Clocks.{jumps_borne, jumps_borne_since}
use Rattle.run_rows.specs.Rows.{past_slots}
use Rattle.entry_causes.proofs.clocks.add_jumps_borne.Given as goal

-- those so far, with those of this node's clock before here
abbrev pub invariant-loop-at : goal.invariant-loop-at
invariant-loop-at l = record {
  lines : l.out.lines ++ jumps_borne_since l.who l.averaged (past_slots l.run l.at)
      ≡ l.initial.out.lines ++ jumps_borne l.node (past_slots l.run l.slots);
  entries : l.out.entries ≡ l.initial.out.entries;
  node : l.who < length l.run.list.slots;
  within : l.at ≤ l.slots;
}

abbrev pub decreases-loop-at : goal.decreases-loop-at
decreases-loop-at l = l.at
