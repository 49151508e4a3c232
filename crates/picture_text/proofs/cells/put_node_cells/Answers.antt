use Rattle.picture_text.proofs.Words.{node_at, node_cell, column_x, row_y}
use Rattle.picture_text.proofs.Rows.{one_more}
use Rattle.picture_text.proofs.cells.put_node_cells.Goals as goal

pub loop-number-preserved : goal.loop-number-preserved
loop-number-preserved g c =
    one_more _ _ _ _ _ _
    (λ k. node_cell c.args.layout.head c.args.slot k (node_at c.args.shown.now k)
    c.args.common.most c.args.common.refused
    (column_x c.args.layout.head.nodes c.args.layout.span c.args.slot)
    (row_y c.args.layout.head.nodes c.args.layout.span c.args.slot k))
    c.loop-number.number c.make_node_cell.new.line c.loop-number.invariant c.write.ensures c.make_node_cell.ensures
