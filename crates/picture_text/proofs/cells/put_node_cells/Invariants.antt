use Rattle.picture_text.proofs.Words.{map, below, node_at, node_cell, column_x, row_y, Puts}
use Rattle.picture_text.proofs.cells.put_node_cells.Given as goal

-- the cells so far were put
abbrev pub invariant-loop-number : goal.invariant-loop-number
invariant-loop-number g l =
    Puts l.fn.sheet.failed (g.K.Sink.output l.fn.out) l.sheet.failed (g.K.Sink.output l.out)
    (map (λ k. node_cell l.layout.head l.slot k (node_at l.shown k) l.common.most l.common.refused
    (column_x l.layout.head.nodes l.layout.span l.slot) (row_y l.layout.head.nodes l.layout.span l.slot k))
    (below l.number))
