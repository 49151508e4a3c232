use Rattle.chart_text.proofs.Words.{◌≡◌, ◌+◌, ◌*◌, ℕ, subst, arith, lines_below, Puts, puts_below, first_place}
use Rattle.chart_text.proofs.Words.{kind_lines}
use Rattle.chart_text.specs.Key.{many_places}
use Rattle.chart_text.proofs.table.put_kind_rows.Goals as goal

pub loop-number-preserved : goal.loop-number-preserved
loop-number-preserved g c =
    puts_below _ _ _ _ _ _
    (λ (j : ℕ). kind_lines c.args.counts.now c.args.doing c.args.x (c.args.top + 359 + 14 * j)
    (first_place c.args.doing + j))
    c.loop-number.number c.loop-number.invariant
    (rw (c.first_place.ensures.value, c.from.ensures) at c.put_kind_row.ensures)

pub returns : goal.returns
returns g c =
    let all : c.loop-number.number ≡ many_places c.args.doing = omega arith in
    subst (λ (n : ℕ). Puts c.args.sheet.now.failed (g.K.Sink.output c.args.out.now) c.loop-number.sheet.failed
    (g.K.Sink.output c.loop-number.out)
    (lines_below (λ (j : ℕ). kind_lines c.args.counts.now c.args.doing c.args.x (c.args.top + 359 + 14 * j)
    (first_place c.args.doing + j)) n)) all c.loop-number.invariant
