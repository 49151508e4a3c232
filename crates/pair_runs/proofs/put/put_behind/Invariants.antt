use Rattle.std.proofs.Common.{◌+◌, ◌-◌}
use Rattle.std.specs.Prelude.{flat_map}
use Rattle.std.specs.List.{range_with_len}
use Rattle.fault_runs.specs.Tries.{IsOwnAfter}
use Rattle.pair_runs.specs.Counted.{PutPairs}
use Rattle.pair_runs.proofs.Groups.{tolds_later}
use Rattle.pair_runs.proofs.put.put_behind.Given as goal

-- the pairs of the slots so far were counted, and their lines written
abbrev pub invariant-loop-later : goal.invariant-loop-later
invariant-loop-later g l = record {
  past : IsOwnAfter l.past l.setting.common.list.now l.setting.more.now l.later;
  put : PutPairs (g.K.Sink.output l.initial.out) (g.K.Sink.output l.out) l.initial.tally l.tally
      (flat_map (tolds_later l.setting) (range_with_len (l.setting.slot + 1) (l.later - (l.setting.slot + 1))));
}
