use Rattle.std.proofs.Common.{◌*◌, []}
use Rattle.std.specs.Prelude.{flat_map}
use Rattle.ttp_base.specs.NodeSet.{below}
use Rattle.ttp_base.specs.Outside.{Output}
use Rattle.margin_text.specs.Taken.{IsFewOf}
use Rattle.run_costs.specs.Standing.{IsRunAfter}
use Rattle.margin_runs.specs.Written.{AreSwept, jumps_asked, most_in_slot}
use Rattle.margin_runs.proofs.put.put_slots.Given as goal

-- the slots so far were swept
abbrev pub invariant-loop-slot : goal.invariant-loop-slot
invariant-loop-slot g l =
    record {
      own : IsRunAfter l.own l.common.list.now l.common.script.now l.slot;
      few : IsFewOf (most_in_slot * l.slot) l.total;
      swept : (begin : Output)
          → AreSwept begin (g.K.Sink.output l.initial.out) l.common [] l.initial.total
          → AreSwept begin (g.K.Sink.output l.out) l.common
          (flat_map (jumps_asked l.common.list.now l.common.script.now l.asked) (below l.slot)) l.total;
    }
