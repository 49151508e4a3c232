use Rattle.cluster_run.proofs.Words.{◌≤◌, [], length, get_or, None, ap, ◌∙◌, arith, filter_map, EVENT_LIMIT, write_at}
use Rattle.cluster_run.proofs.Words.{writes_in, next_slot, host_write_lines}
use Rattle.cluster_run.proofs.Sends.{few_writes, have_chosen, lines_shown, may_fetch_all, may_lend, may_settle}
use Rattle.cluster_run.proofs.Sends.{may_write_all, more_bytes}
use Rattle.cluster_run.proofs.choosing.write_and_choose.Goals as goal

pub lend_fetchers-requires-clause-rings : goal.lend_fetchers-requires-clause-rings
lend_fetchers-requires-clause-rings g c = may_lend c.requires.may.ends_count c.requires.may.begun

pub write_and_fetch-ends-requires-clause-writes : goal.write_and_fetch-ends-requires-clause-writes
write_and_fetch-ends-requires-clause-writes g c κs within =
    let at = c.args.at.now in
    let many = length (filter_map (write_at at.script.now) c.args.places.now) in
    let few : many ≤ EVENT_LIMIT =
    omega (arith, ap length c.requires.places, few_writes at.script.now at.slot at.valid_script.event_count) in
    record {
      writes = rw c.in_ok-ends.ensures.ends (may_write_all c.requires.may.ends_count c.requires.may.begun many few);
      empty = c.in_ok-lines.ensures.items;
      room = omega (arith, c.in_ok-lines.ensures.capacity);
    }

pub write_and_fetch-ends-requires-clause-fetchers : goal.write_and_fetch-ends-requires-clause-fetchers
write_and_fetch-ends-requires-clause-fetchers g c κs within =
    let at = c.args.at.now in
    let may = c.requires.may in
    may_fetch_all (c.in_ok-ends.ensures.fetchers (next_slot at.list.now at.script.now may.numbers) may.begun.begun)

pub settle_fetchers-ends-requires-clause-fetchers_count : goal.settle_fetchers-ends-requires-clause-fetchers_count
settle_fetchers-ends-requires-clause-fetchers_count g c =
    let at = c.args.at.now in
    let may = c.requires.may in
    let lent = c.in_ok-ends.ensures.fetchers (next_slot at.list.now at.script.now may.numbers) may.begun.begun in
    let wrote = c.write_and_fetch-ends.ensures in
    omega (arith, wrote.fetches.count, lent.count, wrote.written.count, ap length c.in_ok-ends.ensures.ends)

pub settle_fetchers-ends-requires-clause-fetchers : goal.settle_fetchers-ends-requires-clause-fetchers
settle_fetchers-ends-requires-clause-fetchers g c = λ k near.
    let at = c.args.at.now in
    let may = c.requires.may in
    let same = c.in_ok-ends.ensures.ends in
    let wrote = c.write_and_fetch-ends.ensures in
    rw (wrote.written.ends k, c.requires.places, same)
    (may_settle may.ends_count may.begun c.write_and_fetch-ends.result.2.items (writes_in at.script.now at.slot)
    (c.in_ok-ends.ensures.fetchers (next_slot at.list.now at.script.now may.numbers) may.begun.begun) wrote.fetches k
    (omega (arith, near, ap length same, wrote.written.count)))

pub returns : goal.returns
returns g c =
    let at = c.args.at.now in
    let may = c.requires.may in
    let same = c.in_ok-ends.ensures.ends in
    let wrote = c.write_and_fetch-ends.ensures in
    let settled = c.settle_fetchers-ends.ensures in
    let many = ap length same ∙ may.ends_count in
    let bytes = more_bytes at may.bytes (rw c.requires.places at wrote.written.bytes) in
    record {
      count = omega (arith, settled.ends_count, wrote.written.count, ap length same);
      bytes = bytes;
      lines_are = wrote.written.lines_are ∙ (λ i. host_write_lines (same i) [] (c.requires.places i))
          ∙ lines_shown may.ends_count may.begun;
      chooses = λ numbers begun.
          let lent = c.in_ok-ends.ensures.fetchers (next_slot at.list.now at.script.now numbers) begun.begun in
          have_chosen may.ends_count begun c.args.chosen.now bytes
          (λ k node. record {
            tried = get_or c.write_and_fetch-ends.result.2.items k None;
            fetches = rw (lent.each k (omega (arith, node, may.ends_count)))
                at (wrote.fetches.each k (omega (arith, node, may.ends_count, lent.count)));
            settles = rw (wrote.written.ends k, c.requires.places, same)
                at (settled.settles k (omega (arith, node, many, wrote.written.count)));
          });
    }
