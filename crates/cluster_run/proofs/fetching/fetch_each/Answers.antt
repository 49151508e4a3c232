use Rattle.cluster_run.proofs.Words.{◌<◌, length, None, ◌∙◌, arith, slice_get-get_or, each-of, at_any, payload_few}
use Rattle.cluster_run.proofs.Changes.{both_more}
use Rattle.cluster_run.proofs.Sends.{plan_there}
use Rattle.cluster_run.proofs.fetching.fetch_each.Goals as goal

pub fetch_for-requires-clause-limit : goal.fetch_for-requires-clause-limit
fetch_for-requires-clause-limit g c κs within =
    payload_few c.args.list.now c.loop-k.k c.get.result.now c.requires.list c.get.ensures

pub fetch_for-requires-clause-may : goal.fetch_for-requires-clause-may
fetch_for-requires-clause-may g c κs within =
    let k = c.loop-k.k in
    let so = c.loop-k.invariant in
    let may = c.requires.may in
    let now : k < length c.loop-k.ends = omega (arith, so.first.count, c.loop-k-test.true) in
    let near : k < length c.args.ends.now = omega (arith, so.first.count, now) in
    let seat = slice_get-get_or c.args.seats.now k c.index-seats-k.result (omega (arith, c.requires.seats, near)) in
    let loaded = c.is_loaded-loaded.ensures may.lend.slot k (each-of may.lend.begun k seat) in
    let end = at_any c.loop-k.ends k c.index-ends-k.result None now ∙ so.first.rest k (omega arith) in
    rw (← plan_there c.args.list.now k c.get.result.now c.get.ensures, loaded, end)
    (may.lend.rings k near, may.settle k near)

pub loop-k-preserved : goal.loop-k-preserved
loop-k-preserved g c =
    let k = c.loop-k.k in
    let so = c.loop-k.invariant in
    let near : k < length c.loop-k.ends = omega (arith, so.first.count, c.loop-k-test.true) in
    let chosen_near : k < length c.loop-k.chosen =
    omega (arith, so.second.count, so.first.count, c.requires.chosen_count, near) in
    let seat = slice_get-get_or c.args.seats.now k c.index-seats-k.result
    (omega (arith, c.requires.seats, so.first.count, near)) in
    let plan = plan_there c.args.list.now k c.get.result.now c.get.ensures in
    both_more c.index-ends-k.result c.fetch_for.new.end c.index-chosen-k.result
    c.fetch_for.new.chosen so near chosen_near
    c.index-ends-k.is c.index-chosen-k.is
    (λ s begun.
    rw (plan, ← c.is_loaded-loaded.ensures s k (each-of begun k seat), c.index-ends-k.is, c.index-chosen-k.is)
    c.in_ok-fetch_for.ensures.fetches)
