use Rattle.std.proofs.Common.{◌*◌, []}
use Rattle.std.specs.Prelude.{flat_map}
use Rattle.ttp_base.specs.NodeSet.{below}
use Rattle.ttp_base.specs.Outside.{Output}
use Rattle.margin_text.specs.Taken.{IsFewOf}
use Rattle.margin_runs.specs.Written.{AreSwept, drifts_of, most_in_sweep}
use Rattle.margin_runs.proofs.put.put_drifts.Given as goal

-- the nodes so far were swept
abbrev pub invariant-loop-node : goal.invariant-loop-node
invariant-loop-node g l =
    record {
      few : IsFewOf (l.node * most_in_sweep) l.total;
      swept : (begin : Output)
          → AreSwept begin (g.K.Sink.output l.initial.out) l.common [] l.initial.total
          → AreSwept begin (g.K.Sink.output l.out) l.common
          (flat_map (drifts_of l.common.script.now) (below l.node)) l.total;
    }
