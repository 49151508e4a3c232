use Rattle.picture_text.proofs.Words.{lines_below, band_lines, Puts}
use Rattle.picture_text.proofs.band.put_bands.Given as goal

-- the bands so far were put
abbrev pub invariant-loop-band : goal.invariant-loop-band
invariant-loop-band g l =
    Puts l.fn.sheet.failed (g.K.Sink.output l.fn.out) l.sheet.failed (g.K.Sink.output l.out)
    (lines_below (band_lines l.layout.head.nodes l.layout.span) l.band)
