use Rattle.chart_text.proofs.Words.{◌∙◌, ◌+◌, ◌<◌, length, sym, arith, drop, told_of, is_worse}
use Rattle.chart_text.proofs.Listing.{told-view, length-view, place-next, place-here}
use Rattle.chart_text.proofs.worst.Worst.place_for.Goals as goal

pub returns-then-is_worse-clause-value : goal.returns-then-is_worse-clause-value
returns-then-is_worse-clause-value c =
    let self = c.args.self.now in
    let place = c.loop-place.place in
    let x = c.index.result.now in
    let less : place < length c.self.inside.lines.items =
    omega (arith, c.loop-place-test.true, c.len.ensures, c.self.inside.lines.ok.0) in
    place-here (λ one. is_worse c.args.size c.args.fault one.shown) place _ (told_of x) (drop place self)
    (drop (place + 1) self)
    (told-view c.self.inside.lines.items self place x c.self.view_is less c.index.ensures)
    (sym c.is_worse.ensures ∙ c.if-is_worse.true) c.loop-place.invariant.place

pub loop-place-preserved : goal.loop-place-preserved
loop-place-preserved c =
    let self = c.args.self.now in
    let place = c.loop-place.place in
    let x = c.index.result.now in
    let less : place < length c.self.inside.lines.items =
    omega (arith, c.loop-place-test.true, c.len.ensures, c.self.inside.lines.ok.0) in
    record {
      place =
          place-next (λ one. is_worse c.args.size c.args.fault one.shown) place _ (told_of x) (drop place self)
          (drop (place + 1) self)
          (told-view c.self.inside.lines.items self place x c.self.view_is less c.index.ensures)
          (sym c.is_worse.ensures ∙ c.if-is_worse.false) c.loop-place.invariant.place;
      within = omega (arith, less, length-view c.self.inside.lines.items self c.self.view_is);
    }
