use Rattle.chart_text.proofs.Words.{◌++◌, ◌+◌, codes, decimal, one_more, row_line, chart_y}
use Rattle.chart_text.proofs.band.put_node_names.Goals as goal

pub loop-node-preserved : goal.loop-node-preserved
loop-node-preserved g c =
    one_more _ _ _ _ _ _
    (λ k. row_line (chart_y c.args.nodes c.args.column k + 13) (codes "node " ++ decimal k)) c.loop-node.node
    c.make_node_row.new.line c.loop-node.invariant c.write.ensures
    (rw c.chart_y.ensures.value at c.make_node_row.ensures)
