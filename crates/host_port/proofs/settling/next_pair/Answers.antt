use Rattle.host_port.proofs.Names.{◌≡◌, length, ap, arith, into_iter_items, into_iter_len}
use Rattle.host_port.proofs.LineQueues.{queue_within, queue_before, queue_after, queue_other, if_taken}
use Rattle.host_port.proofs.settling.next_pair.Goals as goal

pub returns-clause-some : goal.returns-clause-some
returns-clause-some c =
    let queues = c.args.queues.now.items in
    let queue = c.index_mut-queue.result.now in
    let within = queue_within into_iter_items queues c.args.place c.requires in
    let same = queue_before into_iter_items queues c.args.place queue within c.index_mut-queue.ensures.value in
    let long : into_iter_len queue ≡ length (into_iter_items queue) = queue.rest.ok.0 in
    c.next.ensures.variant.1 (omega (arith, c.requires, ap length same))

pub returns-clause-first : goal.returns-clause-first
returns-clause-first c =
    let queues = c.args.queues.now.items in
    let within = queue_within into_iter_items queues c.args.place c.requires in
    if_taken c.next.result _ _ _ _
    (queue_before into_iter_items queues c.args.place c.index_mut-queue.result.now within
    c.index_mut-queue.ensures.value)
    (queue_after into_iter_items queues c.args.place c.next.new.self within) c.next.ensures.items

pub returns-clause-others : goal.returns-clause-others
returns-clause-others c = λ other apart.
    queue_other into_iter_items c.args.queues.now.items c.args.place other c.next.new.self apart
