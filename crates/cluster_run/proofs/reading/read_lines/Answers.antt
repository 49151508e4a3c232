use Rattle.cluster_run.proofs.Words.{map, ap, ◌∙◌, arith, length-map, into_iter_items, Desk, read_of, lines_by}
use Rattle.cluster_run.proofs.Words.{queue_of}
use Rattle.cluster_run.proofs.Lines.{lines_of_all}
use Rattle.cluster_run.proofs.reading.read_lines.Goals as goal

pub returns-clause-lines : goal.returns-clause-lines
returns-clause-lines c =
    let vecs = c.in_ok-queues.queues.items in
    let same = ap (map into_iter_items) c.as_mut_slice.ensures.value in
    let ends = length-map c.args.desks.now (λ (d : Desk). d.end) in
    lines_of_all c.args.reads.now c.args.readers.items (map into_iter_items vecs) c.from_vec.result
    (omega (arith, length-map vecs into_iter_items, c.in_ok-queues.ensures.queues_count, ends, c.requires.own.count))
    c.in_ok-queues.ensures.queues
    (λ due. ap (map read_of) c.from_vec.ensures ∙ c.in_order.ensures.reads (rw same due))
    (λ due k. ap (lines_by k) c.from_vec.ensures ∙ c.in_order.ensures.lines (rw same due) k
    ∙ ap (λ qs. queue_of qs k) same)
