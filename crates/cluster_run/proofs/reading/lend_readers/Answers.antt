use Rattle.cluster_run.proofs.Words.{◌≡◌, ◌<◌, [], None, length, get_or, sym, ap, ◌∙◌, arith, length-map, set_back}
use Rattle.cluster_run.proofs.Words.{AreLentTo, Desk, end_at, desk_ends, at_any, get_or-map}
use Rattle.cluster_run.proofs.Changes.{pushed_more}
use Rattle.cluster_run.proofs.reading.lend_readers.Goals as goal

pub loop-k-preserved : goal.loop-k-preserved
loop-k-preserved c =
    let k = c.loop-k.k in
    let so = c.loop-k.invariant in
    let old_desks = c.args.desks.now in
    let ends = desk_ends old_desks in
    let reads = c.args.reads.now in
    let desk = c.index-desks-k.result in
    let was = get_or c.loop-k.desks k desk in
    let within : k < length ends =
    omega (arith, length-map old_desks (λ (d : Desk). d.end), ap length so.desks, c.loop-k-test.true) in
    let end : was.end ≡ end_at ends k = ap (λ xs. (get_or xs k desk).end) so.desks
    ∙ sym (get_or-map (λ (d : Desk). d.end) old_desks k desk) ∙ at_any ends k desk.end [] within in
    record {
      desks = set_back c.loop-k.desks k desk (record was { end = c.lend_one.new.end }) c.index-desks-k.is
          (ap (λ e. record was { end = e }) c.lend_one.ensures.end ∙ sym c.index-desks-k.is) ∙ so.desks;
      count = omega (arith, c.push_reserved.ensures.len, so.count);
      room = c.push_reserved.ensures.capacity ∙ so.room;
      lent = λ i near. rw c.push_reserved.ensures.items
          (pushed_more (λ i. AreLentTo reads i (end_at ends i)) None k c.loop-k.readers.items c.in_ok-lend_one.field-0
          (omega (arith, so.count)) so.lent (rw end at c.in_ok-lend_one.ensures.lent) i near);
    }

pub returns-clause-lent : goal.returns-clause-lent
returns-clause-lent c =
    let so = c.loop-k.invariant in
    let many = length-map c.args.desks.now (λ (d : Desk). d.end) in
    let same = ap length so.desks in
    record {
      count = omega (arith, so.count, many, same, c.loop-k-test.false);
      each = λ i near. so.lent i (omega (arith, near, many, same, c.loop-k-test.false));
    }
