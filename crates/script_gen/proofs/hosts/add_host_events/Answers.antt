use Rattle.script_gen.proofs.Words.{◌≡◌, ◌+◌, ◌%◌, ◌++◌, ap, ◌∙◌, length, write_by, reads_by}
use Rattle.script_gen.proofs.LoopSteps.{hosts-next}
use Rattle.script_gen.proofs.hosts.add_host_events.Goals as goal

pub loop-slot-preserved : goal.loop-slot-preserved
loop-slot-preserved c =
    let list = c.args.list.now in
    let slot = c.loop-slot.slot in
    let nodes : c.from-nodes.result ≡ length list.slots = c.from-nodes.ensures ∙ c.nodes.ensures in
    hosts-next list slot c.args.events.now c.loop-slot.events c.add_write.new.events c.add_reads.new.events
    (c.in_ok-add_write.ensures ∙ ap (λ n. c.loop-slot.events ++ write_by list slot (slot % n)) nodes)
    (c.in_ok-add_reads.ensures
    ∙ ap (λ n. c.add_write.new.events ++ reads_by list slot ((slot + 1) % n) (slot % n)) nodes)
    c.loop-slot.invariant
