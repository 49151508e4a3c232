use Rattle.picture_text.proofs.Words.{lines_below, Puts}
use Rattle.picture_text.specs.Picture.{why_lines}
use Rattle.picture_text.proofs.beside.put_whys.Given as goal

-- the reasons so far were put
abbrev pub invariant-loop-number : goal.invariant-loop-number
invariant-loop-number g l =
    Puts l.fn.sheet.failed (g.K.Sink.output l.fn.out) l.sheet.failed (g.K.Sink.output l.out)
    (lines_below (why_lines l.layout.head.nodes l.layout.span l.slot l.shown) l.number)
