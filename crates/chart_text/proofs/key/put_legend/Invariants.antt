use Rattle.chart_text.proofs.Words.{lines_below, Puts}
use Rattle.chart_text.specs.Key.{look_entry}
use Rattle.chart_text.proofs.key.put_legend.Given as goal

-- the entries so far were put
abbrev pub invariant-loop-number : goal.invariant-loop-number
invariant-loop-number g l =
    Puts l.fn.sheet.failed (g.K.Sink.output l.fn.out) l.sheet.failed (g.K.Sink.output l.out)
    (lines_below (look_entry l.top) l.number)
