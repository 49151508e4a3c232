use Rattle.std.proofs.Common.{◌≡◌}
use Rattle.run_costs.specs.Standing.{IsRunOfList}
use Rattle.pair_runs.specs.Written.{IsAhead}
use Rattle.pair_runs.proofs.ahead.OwnAhead.look_to.Given as goal

-- it has come to this slot
abbrev pub invariant-loop-slot : goal.invariant-loop-slot
invariant-loop-slot l = record {
  ahead : IsAhead l.common.list.now l.common.script.now l.self;
  next : l.self.next ≡ l.slot;
  run : IsRunOfList l.run.run l.common.list.now;
}
