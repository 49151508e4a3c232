use Rattle.picture_text.proofs.Words.{◌+◌, ◌++◌, map, codes, below, row_line, row_y, Puts}
use Rattle.std.proofs.Common.{decimal}
use Rattle.picture_text.proofs.band.put_node_rows.Given as goal

-- the names so far were put
abbrev pub invariant-loop-number : goal.invariant-loop-number
invariant-loop-number g l =
    Puts l.fn.sheet.failed (g.K.Sink.output l.fn.out) l.sheet.failed (g.K.Sink.output l.out)
    (map (λ k. row_line (row_y l.layout.head.nodes l.layout.span l.slot k + 14) (codes "node " ++ decimal k))
    (below l.number))
