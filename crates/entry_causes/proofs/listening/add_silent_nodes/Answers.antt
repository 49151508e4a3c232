use Rattle.std.proofs.Common.{◌-◌, filter, not, take}
use Rattle.causes.specs.Listening.{hears_nothing, silent_node}
use Rattle.causes.specs.RunSlots.{RunSlot}
use Rattle.entry_causes.proofs.Remaining.{adds-next}
use Rattle.run_rows.specs.Rows.{past_slots, run_slot}
use Rattle.entry_causes.proofs.listening.add_silent_nodes.Goals as goal

pub loop-other-preserved : goal.loop-other-preserved
loop-other-preserved c =
    let run = c.args.run.now in
    let audible =
    filter (λ (u : RunSlot). not (hears_nothing c.args.node u))
    (take (c.args.slot - c.args.from) (past_slots run c.args.slot)) in
    adds-next (silent_node c.args.node (run_slot run c.args.slot)
    (past_slots run c.args.slot) audible) c.loop-other.other
    c.args.out.now c.loop-other.out c.add_silent_node.new.out c.loop-other.invariant c.in_ok-add_silent_node.ensures
