use Rattle.chart_text.proofs.Words.{map, below, Puts, key_square}
use Rattle.chart_text.proofs.key.put_key_squares.Given as goal

-- the squares so far were put
abbrev pub invariant-loop-place : goal.invariant-loop-place
invariant-loop-place g l =
    Puts l.fn.sheet.failed (g.K.Sink.output l.fn.out) l.sheet.failed (g.K.Sink.output l.out)
    (map (key_square l.top) (below l.place))
