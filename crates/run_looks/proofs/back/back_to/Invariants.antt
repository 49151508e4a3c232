use Rattle.std.proofs.Common.{◌≡◌, ◌≤◌}
use Rattle.causes.specs.RunSlots.{back_to}
use Rattle.run_looks.specs.Back.{is_of_kind}
use Rattle.run_rows.specs.Rows.{past_slots}
use Rattle.run_looks.proofs.back.back_to.Given as goal

-- none of the kind since here
abbrev pub invariant-loop-at : goal.invariant-loop-at
invariant-loop-at l = record {
  is : back_to (is_of_kind l.kind) l.node (past_slots l.run l.before)
      ≡ back_to (is_of_kind l.kind) l.node (past_slots l.run l.at);
  within : l.at ≤ l.before;
}

abbrev pub decreases-loop-at : goal.decreases-loop-at
decreases-loop-at l = l.at
