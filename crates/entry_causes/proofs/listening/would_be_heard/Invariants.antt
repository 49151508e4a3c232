use Rattle.std.proofs.Common.{◌≡◌, ◌-◌, ◌≤◌, filter, not, take}
use Rattle.std.specs.List.{list_any}
use Rattle.causes.specs.Listening.{hears_nothing, would_send}
use Rattle.run_rows.specs.Rows.{past_slots, run_slot}
use Rattle.entry_causes.proofs.listening.would_be_heard.Given as goal

-- not in the slots since here
abbrev pub invariant-loop-at : goal.invariant-loop-at
invariant-loop-at l = record {
  is : list_any (would_send l.node (run_slot l.run l.left))
      (filter (λ u. not (hears_nothing l.listener u)) (take (l.before - l.from) (past_slots l.run l.before)))
      ≡ list_any (would_send l.node (run_slot l.run l.left))
      (filter (λ u. not (hears_nothing l.listener u)) (take (l.at - l.from) (past_slots l.run l.at)));
  within : l.at ≤ l.before;
}

abbrev pub decreases-loop-at : goal.decreases-loop-at
decreases-loop-at l = l.at
