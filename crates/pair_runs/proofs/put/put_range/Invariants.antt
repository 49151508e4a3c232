use Rattle.std.proofs.Common.{◌-◌, ◌*◌}
use Rattle.fault_runs.specs.Tries.{IsOwnAfter}
use Rattle.pair_runs.specs.Counted.{most_of_slot, distances_of, HasFewSums, PutFirsts}
use Rattle.pair_runs.specs.Written.{IsAhead, IsWorkspace, firsts_between, tolds_of_firsts, text_of_firsts}
use Rattle.pair_runs.proofs.put.put_range.Given as goal

-- the first faults of the slots so far were written
abbrev pub invariant-loop-slot : goal.invariant-loop-slot
invariant-loop-slot g l = record {
  own : IsOwnAfter l.own l.common.list.now l.common.script.now l.slot;
  ahead : IsAhead l.common.list.now l.common.script.now l.ahead;
  work : IsWorkspace l.common.list.now l.work;
  few : HasFewSums (distances_of l.common) (most_of_slot * l.slot) l.tally.sums;
  put : PutFirsts (g.K.Sink.output l.initial.out) (g.K.Sink.output l.out) l.initial.tally l.tally
      (tolds_of_firsts l.common (firsts_between l.common l.from (l.slot - l.from)))
      (text_of_firsts l.common (firsts_between l.common l.from (l.slot - l.from)));
}
