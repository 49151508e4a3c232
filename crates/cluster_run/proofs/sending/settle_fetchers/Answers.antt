use Rattle.cluster_run.proofs.Words.{◌≡◌, ◌<◌, length, get_or, None, sym, ◌∙◌, arith, at_any, payload_few}
use Rattle.cluster_run.proofs.Changes.{both_more, changed_more}
use Rattle.cluster_run.proofs.Sends.{plan_there}
use Rattle.cluster_run.proofs.sending.settle_fetchers.Goals as goal

pub settle_one-requires-clause-limit : goal.settle_one-requires-clause-limit
settle_one-requires-clause-limit c =
    payload_few c.args.list.now c.loop-k.k c.get.result.now c.requires.list c.get.ensures

pub settle_one-requires-clause-fetcher : goal.settle_one-requires-clause-fetcher
settle_one-requires-clause-fetcher c = λ x is.
    let k = c.loop-k.k in
    let so = c.loop-k.invariant in
    let now : k < length c.loop-k.ends.items = omega (arith, so.settled.first.count, c.loop-k-test.true) in
    let near : k < length c.loop-k.fetchers.items =
    omega (arith, so.taken.count, c.requires.fetchers_count, so.settled.first.count, now) in
    let was : get_or c.args.fetchers.items k None ≡ _ =
    sym (c.index_mut.ensures.value ∙ at_any c.loop-k.fetchers.items k c.index_mut.result.now None near
    ∙ so.taken.rest k (omega arith)) ∙ sym c.take-fetcher.ensures.value ∙ is in
    let end = c.index_mut-in-loop-k.ensures.value
    ∙ at_any c.loop-k.ends.items k c.index_mut-in-loop-k.result.now None now
    ∙ so.settled.first.rest k (omega arith) in
    rw (← plan_there c.args.list.now k c.get.result.now c.get.ensures, end)
    (c.requires.fetchers k (omega (arith, so.settled.first.count, now)) x was)

pub loop-k-preserved : goal.loop-k-preserved
loop-k-preserved c =
    let k = c.loop-k.k in
    let so = c.loop-k.invariant in
    let now : k < length c.loop-k.ends.items = omega (arith, so.settled.first.count, c.loop-k-test.true) in
    let near : k < length c.loop-k.fetchers.items =
    omega (arith, so.taken.count, c.requires.fetchers_count, so.settled.first.count, now) in
    let chosen_near : k < length c.loop-k.chosen =
    omega (arith, so.settled.second.count, c.requires.chosen_count, so.settled.first.count, now) in
    let fetcher = c.take-fetcher.ensures.value ∙ c.index_mut.ensures.value
    ∙ at_any c.loop-k.fetchers.items k c.index_mut.result.now None near ∙ so.taken.rest k (omega arith) in
    record {
      taken = changed_more c.index_mut.result.now c.take-fetcher.new.self so.taken near c.index_mut.ensures.value tt;
      settled =
          both_more c.index_mut-in-loop-k.result.now c.settle_one.new.end
          c.index-chosen-k.result c.settle_one.new.chosen so.settled
          now chosen_near c.index_mut-in-loop-k.ensures.value c.index-chosen-k.is
          (rw (← fetcher, plan_there c.args.list.now k c.get.result.now c.get.ensures, c.index-chosen-k.is)
          c.settle_one.ensures);
    }
