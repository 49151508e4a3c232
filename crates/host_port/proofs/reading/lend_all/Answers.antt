use Rattle.host_port.proofs.Names.{◌≡◌, ◌<◌, ◌++◌, ◌∷◌, [], None, length, get_or, sym, ap, ◌∙◌, arith, add-one}
use Rattle.host_port.proofs.Names.{zero-add, reads_at, lent}
use Rattle.std.proofs.lemmas.List.{get_or_read}
use Rattle.host_port.proofs.ReaderLists.{set_back, all_lent-more}
use Rattle.host_port.proofs.reading.lend_all.Goals as goal

pub loop-place-preserved : goal.loop-place-preserved
loop-place-preserved c =
    let reads = c.args.reads.now in
    let node = c.args.node in
    let before = c.args.writers.now in
    let writers = c.loop-place.writers in
    let place = c.loop-place.place in
    let within : place < length before = omega arith in
    let within' : place < length writers = omega (arith, ap length c.loop-place.invariant.writers) in
    let writer = c.index-writers-place.is in
    let there = get_or_read writers place c.index-writers-place.result within' writer None in
    let here : c.index-writers-place.result ≡ get_or before place None =
    there ∙ ap (λ ws. get_or ws place None) c.loop-place.invariant.writers in
    let next = all_lent-more reads node 0 before place place within (zero-add place) in
    let new : c.in_ok-lend_one.field-0 ≡ lent (get_or before place None) (reads_at reads node place) =
    c.in_ok-lend_one.ensures.reader ∙ (λ k. lent ((sym writer ∙ here) k) (c.reads_at-count.ensures k)) in
    record {
      writers = set_back writers place c.index-writers-place.result c.lend_one.new.writer writer (cc)
          ∙ c.loop-place.invariant.writers;
      readers = rw add-one
          (c.push_reserved.ensures.items ∙ ((λ k. c.loop-place.invariant.readers k ++ new k ∷ []) ∙ sym next));
      count = omega (arith, c.push_reserved.ensures.len);
      room = c.push_reserved.ensures.capacity ∙ c.loop-place.invariant.room;
    }
