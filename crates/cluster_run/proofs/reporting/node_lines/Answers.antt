use Rattle.cluster_run.proofs.Words.{◌≡◌, ◌∷◌, ◌++◌, [], None, get_or, sym, ap, ◌∙◌, subst, arith, same_Some}
use Rattle.cluster_run.proofs.Words.{slice_get-get_or, ShowsState, Seat, NodeLine, Desk, message_named, node_shown}
use Rattle.cluster_run.proofs.Words.{map-next}
use Rattle.std.proofs.lemmas.List.{get_or-map}
use Rattle.cluster_run.proofs.Lines.{line_shown}
use Rattle.cluster_run.proofs.reporting.node_lines.Goals as goal

pub loop-k-preserved : goal.loop-k-preserved
loop-k-preserved c =
    let k = c.loop-k.k in
    let seats = c.args.seats.now in
    let seat = get_or seats k c.index-seats-k.result in
    let seat_again = get_or seats k c.index-seats-k-in-loop-k.result in
    let line : NodeLine = record { state = c.state-state.result; message = c.message_shown-message.result } in
    let there = slice_get-get_or seats k c.index-seats-k.result c.loop-k-test.true in
    let same : seat_again ≡ seat = same_Some seat_again seat
    (sym (slice_get-get_or seats k c.index-seats-k-in-loop-k.result c.loop-k-test.true) ∙ there) in
    let number = get_or-map (λ (d : Desk). d.delivered) c.args.desks.now k c.index-desks-k.result None
    (omega (arith, c.requires, c.loop-k-test.true)) in
    record {
      count = omega (arith, c.push_reserved.ensures.len, c.loop-k.invariant.count);
      room = omega (arith, c.push_reserved.ensures.capacity, c.loop-k.invariant.room);
      shown = λ list script row before so.
          let is : line ≡ node_shown list script row before k =
          line_shown so k seat line c.state.result there c.loop-k-test.true c.state-state.ensures.shows
          (subst (λ (x : Seat). ShowsState x.controller c.state.result) same c.state.ensures.shows)
          (c.message_shown-message.ensures ∙ ap (message_named c.state.result.entry) (sym number)) in
          c.push_reserved.ensures.items ∙ (λ i. c.loop-k.invariant.shown list script row before so i ++ is i ∷ [])
          ∙ sym (map-next (node_shown list script row before) k);
    }
