use Rattle.chart_text.proofs.Words.{map, below, Puts, count_line}
use Rattle.chart_text.proofs.table.put_counts.Given as goal

-- the numbers so far were put
abbrev pub invariant-loop-number : goal.invariant-loop-number
invariant-loop-number g l =
    Puts l.fn.sheet.failed (g.K.Sink.output l.fn.out) l.sheet.failed (g.K.Sink.output l.out)
    (map (count_line l.counts l.at.x l.at.y l.kind) (below l.number))
