use Rattle.std.proofs.Common.{◌-◌, ◌≤◌, map, take}
use Rattle.causes.specs.Listening.{kept_from_joining}
use Rattle.causes.specs.Sources.{all_sources}
use Rattle.entry_causes.proofs.Remaining.{AddsBut}
use Rattle.run_rows.specs.Rows.{past_slots}
use Rattle.entry_causes.proofs.listening.add_kept.Given as goal

-- those of the slots before here are left
abbrev pub invariant-loop-at : goal.invariant-loop-at
invariant-loop-at l = record {
  adds : AddsBut l.initial.out l.out
      (all_sources (map (kept_from_joining l.node) (take (l.before - l.from) (past_slots l.run l.before))))
      (all_sources (map (kept_from_joining l.node) (take (l.at - l.from) (past_slots l.run l.at))));
  within : l.at ≤ l.before;
}

abbrev pub decreases-loop-at : goal.decreases-loop-at
decreases-loop-at l = l.at
