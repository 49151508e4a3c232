use Rattle.host_port.proofs.Names.{◌++◌, ◌∷◌, [], None, inl, map, take, refl, sym, ap, ◌∙◌, arith, below_more}
use Rattle.host_port.proofs.Names.{into_iter_items, settled, got_of}
use Rattle.std.proofs.lemmas.List.{map-append, map_more, get_or-set_other, length-set}
use Rattle.host_port.proofs.ReaderLists.{read_alike, ring_written, settled_rings, all_settled-none, is_next}
use Rattle.host_port.proofs.ReaderLists.{next_writer, next_settled, same_ring, on_err}
use Rattle.host_port.proofs.settling.settle_all.Goals as goal

pub returns-in_err-queues-clause-err : goal.returns-in_err-queues-clause-err
returns-in_err-queues-clause-err c = on_err c.from_residual.result
    (record { count = 0; settled_so = sym (all_settled-none c.args.writers.now); wanted = inl refl })

pub loop-place-init : goal.loop-place-init
loop-place-init c = record {
  settled_so = sym (all_settled-none c.args.writers.now);
  pairs = ap (map into_iter_items) c.in_ok-queues.ensures.items;
  whole = λ i near. absurd (omega arith);
  readers = λ i far. refl;
  lengths = refl;
  count = c.in_ok-queues.ensures.len;
  room = c.in_ok-queues.ensures.exact;
}

pub settle_one-requires : goal.settle_one-requires
settle_one-requires c =
    let so = c.loop-place.invariant in
    let next =
    is_next {ws = c.args.writers.now} {rs = c.args.readers.items} c.loop-place.readers.items c.loop-place-test.true
    c.requires so.settled_so so.lengths so.readers c.index-writers-place.is c.index_mut.ensures.value in
    rw (c.take-reader.ensures.value, ← c.index-writers-place.is) (same_ring next c.requires)

pub loop-place-preserved : goal.loop-place-preserved
loop-place-preserved c =
    let so = c.loop-place.invariant in
    let next =
    is_next {ws = c.args.writers.now} {rs = c.args.readers.items} c.loop-place.readers.items c.loop-place-test.true
    c.requires so.settled_so so.lengths so.readers c.index-writers-place.is c.index_mut.ensures.value in
    let rs = c.args.readers.items in
    let place = c.loop-place.place in
    let writer = sym c.index-writers-place.is in
    let reader = c.take-reader.ensures.value in
    let queue = c.in_ok-settle_one.ensures.pairs ∙ ap got_of (reader ∙ next.reader_is) in
    record {
      settled_so = next_settled next c.settle_one.new.writer
          (c.in_ok-settle_one.ensures.settled ∙ (λ k. settled (writer k) (reader k)));
      pairs = ap (map into_iter_items) c.push_reserved.ensures.items
          ∙ (map-append into_iter_items c.loop-place.queues.items (c.in_ok-settle_one.field-0 ∷ [])
          ∙ ((λ k. so.pairs k ++ queue k ∷ []) ∙ sym (map_more got_of rs place None next.readers)));
      whole = below_more _ _ so.whole (rw (← next_writer next, ← next.reader_is)
          (rw (writer, reader) at c.in_ok-settle_one.ensures.whole));
      readers = λ i far.
          get_or-set_other c.loop-place.readers.items place i c.take-reader.new.self None (λ same. absurd (omega arith))
          ∙ so.readers i (omega arith);
      lengths = length-set c.loop-place.readers.items place c.take-reader.new.self ∙ so.lengths;
      count = omega (arith, c.push_reserved.ensures.len);
      room = c.push_reserved.ensures.capacity ∙ so.room;
    }

pub returns-clause-own : goal.returns-clause-own
returns-clause-own c = ap (map ring_written) c.loop-place.invariant.settled_so
    ∙ settled_rings c.args.writers.now (take c.loop-place.place c.args.readers.items)

pub returns-in_err-settle_one-clause-own : goal.returns-in_err-settle_one-clause-own
returns-in_err-settle_one-clause-own c =
    let slot = c.index-writers-place in
    read_alike ring_written c.loop-place.writers c.loop-place.place slot.result c.settle_one.new.writer slot.is
    (ap ring_written (c.in_err-settle_one.ensures.err ∙ sym slot.is))
    ∙ (ap (map ring_written) c.loop-place.invariant.settled_so
    ∙ settled_rings c.args.writers.now (take c.loop-place.place c.args.readers.items))
