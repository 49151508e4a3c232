use Rattle.cluster_run.proofs.Words.{◌<◌, ◌∷◌, [], None, length, map, get_or, sym, ap, ◌∙◌, subst, arith}
use Rattle.cluster_run.proofs.Words.{into_iter_items, length-map, map-append, Desk, readers_at, AreLinesBy, at_any}
use Rattle.cluster_run.proofs.Words.{get_or-map, read_alike}
use Rattle.std.proofs.lemmas.List.{length-append}
use Rattle.cluster_run.proofs.Changes.{changed_more, pushed_more}
use Rattle.cluster_run.proofs.HandingOn.{no_desk}
use Rattle.cluster_run.proofs.LentReaders.{are_settled}
use Rattle.cluster_run.proofs.reading.settle_readers.Goals as goal

pub settle_one-requires : goal.settle_one-requires
settle_one-requires c = record {
  own = λ x is.
      let k = c.loop-k.k in
      let readers = c.loop-k.readers.items in
      let so = c.loop-k.invariant.settled in
      let old = c.args.desks.now in
      let end = λ (d : Desk). d.end in
      let many = length-map old end in
      let now : k < length c.loop-k.desks = omega (arith, so.desks_are.count, c.loop-k-test.true) in
      let near : k < length readers =
      omega (arith, so.readers_are.count, c.requires.own.count, many, so.desks_are.count, now) in
      rw (ap end (at_any c.loop-k.desks k c.index-desks-k.result no_desk now ∙ so.desks_are.rest k (omega arith))
      ∙ sym (get_or-map end old k no_desk))
      (c.requires.own.own k (omega (arith, many, so.desks_are.count, now)) x
      (sym (c.index_mut.ensures.value ∙ at_any readers k c.index_mut.result.now None near
      ∙ so.readers_are.rest k (omega arith)) ∙ sym c.take-own.ensures.value ∙ is));
}

pub returns-in_err-settle_one-clause-numbers : goal.returns-in_err-settle_one-clause-numbers
returns-in_err-settle_one-clause-numbers c =
    read_alike (λ (d : Desk). d.delivered) c.loop-k.desks c.loop-k.k c.index-desks-k.result _ c.index-desks-k.is
    (ap (λ (d : Desk). d.delivered) (sym c.index-desks-k.is)) ∙ c.loop-k.invariant.settled.numbers

pub loop-k-preserved : goal.loop-k-preserved
loop-k-preserved c =
    let k = c.loop-k.k in
    let readers = c.loop-k.readers.items in
    let so = c.loop-k.invariant.settled in
    let desk = c.index-desks-k.result in
    let new : Desk = record (get_or c.loop-k.desks k desk) { end = c.settle_one.new.end } in
    let many = length-map c.args.desks.now (λ (d : Desk). d.end) in
    let near : k < length readers =
    omega (arith, so.readers_are.count, c.requires.own.count, many, so.desks_are.count, c.loop-k-test.true) in
    let own = c.take-own.ensures.value ∙ c.index_mut.ensures.value ∙ at_any readers k c.index_mut.result.now None near
    ∙ so.readers_are.rest k (omega arith) in
    let ok = c.in_ok-settle_one.ensures in
    let queue = into_iter_items c.in_ok-settle_one.field-0 in
    let queues = ap (map into_iter_items) c.push_reserved.ensures.items
    ∙ map-append into_iter_items c.loop-k.queues.items (c.in_ok-settle_one.field-0 ∷ []) in
    record {
      settled = record {
        numbers = read_alike (λ (d : Desk). d.delivered) c.loop-k.desks k desk new c.index-desks-k.is
            (ap (λ (d : Desk). d.delivered) (sym c.index-desks-k.is)) ∙ so.numbers;
        desks_are =
            changed_more desk new so.desks_are
            (omega (arith, so.desks_are.count, c.loop-k-test.true)) c.index-desks-k.is
            (rw (own, ← c.index-desks-k.is) at ok.settles);
        readers_are =
            changed_more c.index_mut.result.now c.take-own.new.self so.readers_are near c.index_mut.ensures.value tt;
        queues_are = rw queues
            (pushed_more (λ i. AreLinesBy i (readers_at c.args.readers.items i)) [] k
            (map into_iter_items c.loop-k.queues.items)
            queue so.queues_count so.queues_are (subst (λ o. AreLinesBy k o queue) own ok.lines));
        queues_count = ap length queues ∙ length-append (map into_iter_items c.loop-k.queues.items) (queue ∷ [])
            ∙ (omega (arith, so.queues_count));
      };
      room = c.push_reserved.ensures.capacity ∙ c.loop-k.invariant.room;
    }

pub returns-clause-settles : goal.returns-clause-settles
returns-clause-settles c =
    let so = c.loop-k.invariant.settled in
    let many = c.requires.own.count ∙ length-map c.args.desks.now (λ (d : Desk). d.end) ∙ sym so.desks_are.count in
    are_settled (omega (arith, many, c.loop-k-test.false)) so
