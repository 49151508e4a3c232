use Rattle.std.proofs.Common.{◌≡◌, ◌-◌, ◌≤◌, filter, not, take}
use Rattle.causes.specs.Listening.{hears_nothing, is_empty}
use Rattle.run_rows.specs.Rows.{past_slots}
use Rattle.entry_causes.proofs.listening.is_ever_audible.Given as goal

-- not in the slots since here
abbrev pub invariant-loop-at : goal.invariant-loop-at
invariant-loop-at l = record {
  is : not (is_empty
      (filter (λ u. not (hears_nothing l.node u)) (take (l.before - l.from) (past_slots l.run l.before))))
      ≡ not (is_empty (filter (λ u. not (hears_nothing l.node u)) (take (l.at - l.from) (past_slots l.run l.at))));
  within : l.at ≤ l.before;
}

abbrev pub decreases-loop-at : goal.decreases-loop-at
decreases-loop-at l = l.at
