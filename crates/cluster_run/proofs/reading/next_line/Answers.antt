use Rattle.cluster_run.proofs.Words.{◌<◌, [], length, get_or, ◌∙◌, arith, into_iter_items, into_iter_len}
use Rattle.std.proofs.lemmas.List.{get_or-map}
use Rattle.cluster_run.proofs.Lines.{if_none}
use Rattle.cluster_run.proofs.FromBelow.{if_taken as if_first, queue_after, queue_other}
use Rattle.cluster_run.proofs.reading.next_line.Goals as goal

pub returns-clause-none : goal.returns-clause-none
returns-clause-none c =
    let queues = c.args.queues.now in
    let k = c.from.result in
    let within : k < length queues = omega (arith, c.requires, c.from.ensures) in
    let queue = get_or queues k c.index-queues-from.result in
    rw (← c.from.ensures)
    (if_none c.next.result _ (into_iter_items queue) (into_iter_len queue)
    (get_or-map into_iter_items queues k c.index-queues-from.result [] within) queue.rest.ok.0 c.next.ensures.variant)

pub returns-clause-first : goal.returns-clause-first
returns-clause-first c =
    let queues = c.args.queues.now in
    let k = c.from.result in
    let within : k < length queues = omega (arith, c.requires, c.from.ensures) in
    rw (← c.from.ensures)
    (if_first c.next.result _ _ _ _ (get_or-map into_iter_items queues k c.index-queues-from.result [] within)
    (queue_after into_iter_items queues k c.next.new.self within) c.next.ensures.items)

pub returns-clause-others : goal.returns-clause-others
returns-clause-others c = λ other apart.
    queue_other into_iter_items c.args.queues.now c.from.result other c.next.new.self
    (λ same. apart (same ∙ c.from.ensures))
