use Rattle.std.proofs.Common.{◌+◌, ◌<◌, ◌≤◌, length, slice_index, refl, sym, ap, ◌∙◌, subst}
use Rattle.nbw_ring.specs.Pairs.{pairs_of}
use Rattle.nbw_ring.proofs.Shelves.{pair_next, rest_shorter, room_for_one}
use Rattle.nbw_ring.proofs.receipts.pair_up.Goals as goal

pub split_at-requires : goal.split_at-requires
split_at-requires c =
    room_for_one (length c.args.numbers.now) c.loop-number.number-index c.args.width _ c.loop-number-test.true
    c.loop-number.invariant.0

pub loop-number-preserved : goal.loop-number-preserved
loop-number-preserved c =
    let numbers = c.args.numbers.now in
    let i = c.loop-number.number-index in
    let width = c.args.width in
    let rest = c.loop-number.rest.now in
    let inside : i < length numbers = c.loop-number-test.true in
    let copied = c.in_ok-words.ensures.items_if_clones_equal (λ x y same. same) in (
      rest_shorter (length numbers) i width _ inside (c.split_at.ensures.back_len ∙ c.loop-number.invariant.0),
      pair_next numbers rest c.split_at.result.1.now i width
          (slice_index numbers i) c.in_ok-words.words.items c.loop-number.pairs.items c.push_reserved.new.self.items
          (pairs_of numbers c.args.words.now width) inside c.loop-number.invariant.1 refl
          (copied ∙ c.split_at.ensures.front) c.split_at.ensures.back c.push_reserved.ensures.items,
      c.push_reserved.ensures.len ∙ ap (λ n. n + 1) c.loop-number.invariant.2,
      subst (λ n. length numbers ≤ n) (sym c.push_reserved.ensures.capacity) c.loop-number.invariant.3,
    )
