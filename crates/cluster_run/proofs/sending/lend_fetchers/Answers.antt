use Rattle.cluster_run.proofs.Words.{◌≡◌, ◌<◌, None, length, get_or, ap, ◌∙◌, arith, slice_get-get_or, is_loaded}
use Rattle.cluster_run.proofs.Words.{set_back, each-of, host_at, fetcher_lent, at_any}
use Rattle.cluster_run.proofs.Changes.{pushed_more}
use Rattle.cluster_run.proofs.sending.lend_fetchers.Goals as goal

pub lend_one-requires : goal.lend_one-requires
lend_one-requires c = record {
  ring = λ loaded.
      let k = c.loop-k.k in
      let ends = c.args.ends.items in
      let within : k < length ends = omega (arith, ap length c.loop-k.invariant.ends, c.loop-k-test.true) in
      let seat = slice_get-get_or c.args.seats.now k c.index-seats-k.result (omega (arith, c.requires.seats, within)) in
      rw (c.index_mut.ensures.value, c.loop-k.invariant.ends, at_any ends k c.index_mut.result.now None within)
      (c.requires.rings.rings k within
      (rw (c.is_loaded-loaded.ensures c.requires.rings.slot k (each-of c.requires.rings.begun k seat)) at loaded));
}

pub loop-k-preserved : goal.loop-k-preserved
loop-k-preserved c =
    let k = c.loop-k.k in
    let so = c.loop-k.invariant in
    let ends = c.args.ends.items in
    let within : k < length ends = omega (arith, ap length so.ends, c.loop-k-test.true) in
    let seat = slice_get-get_or c.args.seats.now k c.index-seats-k.result (omega (arith, c.requires.seats, within)) in
    let end = c.index_mut.ensures.value ∙ ap (λ xs. get_or xs k c.index_mut.result.now) so.ends
    ∙ at_any ends k c.index_mut.result.now None within in
    record {
      ends = set_back c.loop-k.ends.items k c.index_mut.result.now c.lend_one.new.end c.index_mut.ensures.value
          c.lend_one.ensures.end ∙ so.ends;
      count = omega (arith, c.push_reserved.ensures.len, so.count);
      room = c.push_reserved.ensures.capacity ∙ so.room;
      lent = λ s begun j near. rw c.push_reserved.ensures.items
          (pushed_more (λ j f. f ≡ fetcher_lent (is_loaded s j) (host_at ends j)) None k c.loop-k.fetchers.items
          c.in_ok-lend_one.field-0 (omega (arith, so.count)) (so.lent s begun)
          (c.in_ok-lend_one.ensures.fetcher
          ∙ (λ i. fetcher_lent (c.is_loaded-loaded.ensures s k (each-of begun k seat) i) (end i))) j near);
    }

pub returns-clause-fetchers : goal.returns-clause-fetchers
returns-clause-fetchers c = λ s begun.
    let so = c.loop-k.invariant in
    let many : length c.loop-k.fetchers.items ≡ length c.args.ends.items =
    omega (arith, ap length so.ends, so.count, c.loop-k-test.false) in
    record { count = many; each = λ k near. so.lent s begun k (omega (arith, near, so.count, many)) }
