use Rattle.fault_runs.proofs.SameRuns.{settled-next}
use Rattle.fault_runs.proofs.whole.whole_of.Goals as goal

pub loop-slot-preserved : goal.loop-slot-preserved
loop-slot-preserved c = (
  c.step.ensures.run,
  settled-next c.args.list.now c.args.script.now c.loop-slot.slot c.loop-slot.settled c.settled_after-settled.result
      c.is_settled.result c.settled_after-settled.ensures
      (c.is_settled.ensures c.args.script.now c.loop-slot.slot c.step.ensures.run) c.loop-slot.invariant.1,
)
