use Rattle.host_port.proofs.Names.{None, inl, refl, length, get_or, sym, ap, ◌∙◌, ReadersState, got_of, pairs_from}
use Rattle.host_port.proofs.Names.{source_place, calls_at, queue_at}
use Rattle.host_port.proofs.LineQueues.{queue_of}
use Rattle.host_port.proofs.ReaderLists.{all_settled-none, on_err}
use Rattle.host_port.proofs.ends.ControllerEnd.settle_reads.Goals as goal

pub returns-in_err-lines-clause-err : goal.returns-in_err-lines-clause-err
returns-in_err-lines-clause-err c = on_err c.from_residual.result
    (record { count = 0; settled_so = sym (all_settled-none c.args.self.now); wanted = inl refl })

pub lines_of-lines-requires-clause-queued : goal.lines_of-lines-requires-clause-queued
lines_of-lines-requires-clause-queued c =
    let readers = c.r.inside.readers.items in
    λ place. ap (calls_at place) c.as_slice.ensures.value
    ∙ (c.r.invariant.counts place
    ∙ sym (ap length (ap (λ qs. queue_at qs place) c.in_ok-queues.ensures.pairs ∙ queue_of readers place)))

pub returns-clause-pairs : goal.returns-clause-pairs
returns-clause-pairs c =
    let readers = c.r.inside.readers.items in
    λ source.
    let place = source_place source in
    ap (pairs_from source) c.from_vec.ensures
    ∙ (c.lines_of-lines.ensures.pairs place
    ∙ (ap (λ qs. queue_at qs place) c.in_ok-queues.ensures.pairs
    ∙ (queue_of readers place ∙ ap (λ (r : ReadersState). got_of (get_or r.readers place None)) c.r.view_is)))
