use Rattle.std.proofs.Common.{◌≤◌, take}
use Rattle.std.specs.List.{filter_map}
use Rattle.ttp_world.specs.Script.{write_at}
use Rattle.trace_run.proofs.Writes.{HasCounted}
use Rattle.trace_run.proofs.run.write_all.Given as goal

-- the writes so far were made and counted
abbrev pub invariant-loop-at : goal.invariant-loop-at
invariant-loop-at l = record {
  few : l.count ≤ l.at-index;
  has : HasCounted l.outgoing l.list l.script l.slot l.count
      (filter_map (write_at l.script) (take l.at-index l.places));
}
