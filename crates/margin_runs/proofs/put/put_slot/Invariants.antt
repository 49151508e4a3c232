use Rattle.std.proofs.Common.{◌+◌, ◌*◌, List, ◌++◌}
use Rattle.std.specs.Prelude.{flat_map}
use Rattle.ttp_base.specs.NodeSet.{below}
use Rattle.ttp_base.specs.Outside.{Output}
use Rattle.clock_margins.specs.declared.margin.Sweep.{Sweep}
use Rattle.margin_text.specs.Taken.{IsFewOf}
use Rattle.margin_runs.specs.Written.{AreSwept, most_in_sweep, most_in_slot}
use Rattle.margin_runs.proofs.Shown.{jumps_at}
use Rattle.margin_runs.proofs.put.put_slot.Given as goal

-- the nodes so far were swept
abbrev pub invariant-loop-node : goal.invariant-loop-node
invariant-loop-node g l =
    record {
      few : IsFewOf (most_in_slot * l.slot + l.node * most_in_sweep) l.total;
      swept : (begin : Output) (swept : List Sweep)
          → AreSwept begin (g.K.Sink.output l.initial.out) l.common swept l.initial.total
          → AreSwept begin (g.K.Sink.output l.out) l.common
          (swept ++ flat_map (jumps_at l.common.list.now l.common.script.now l.slot) (below l.node)) l.total;
    }
