use Rattle.chart_text.proofs.Words.{◌+◌, ◌*◌, lines_below, Puts, first_place, kind_lines}
use Rattle.chart_text.proofs.table.put_kind_rows.Given as goal

-- the rows so far were put
abbrev pub invariant-loop-number : goal.invariant-loop-number
invariant-loop-number g l =
    Puts l.fn.sheet.failed (g.K.Sink.output l.fn.out) l.sheet.failed (g.K.Sink.output l.out)
    (lines_below (λ j. kind_lines l.counts l.doing l.x (l.top + 359 + 14 * j) (first_place l.doing + j)) l.number)
