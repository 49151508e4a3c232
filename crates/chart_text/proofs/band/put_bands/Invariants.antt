use Rattle.chart_text.proofs.Words.{lines_below, Puts}
use Rattle.chart_text.specs.Chart.{row_names}
use Rattle.chart_text.proofs.band.put_bands.Given as goal

-- the bands so far were put
abbrev pub invariant-loop-band : goal.invariant-loop-band
invariant-loop-band g l =
    Puts l.fn.sheet.failed (g.K.Sink.output l.fn.out) l.sheet.failed (g.K.Sink.output l.out)
    (lines_below (row_names l.extent.size.nodes) l.band)
