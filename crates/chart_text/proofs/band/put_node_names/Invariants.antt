use Rattle.chart_text.proofs.Words.{◌+◌, ◌++◌, map, codes, decimal, below, row_line, Puts, chart_y}
use Rattle.chart_text.proofs.band.put_node_names.Given as goal

-- the names so far were put
abbrev pub invariant-loop-node : goal.invariant-loop-node
invariant-loop-node g l =
    Puts l.fn.sheet.failed (g.K.Sink.output l.fn.out) l.sheet.failed (g.K.Sink.output l.out)
    (map (λ k. row_line (chart_y l.nodes l.column k + 13) (codes "node " ++ decimal k)) (below l.node))
