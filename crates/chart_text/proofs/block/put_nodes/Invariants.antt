use Rattle.chart_text.proofs.Words.{[], List, FaultTold, lines_below, Puts, AreTallies}
use Rattle.chart_text.specs.Chart.{node_sum_lines}
use Rattle.chart_text.proofs.block.put_nodes.Given as goal

-- the nodes so far have their cells
abbrev pub invariant-loop-node : goal.invariant-loop-node
invariant-loop-node g l =
    (faults : List FaultTold) → AreTallies l.extent.size l.tallies [] faults
    → Puts l.fn.sheet.failed (g.K.Sink.output l.fn.out) l.sheet.failed (g.K.Sink.output l.out)
    (lines_below (node_sum_lines l.extent.size l.x faults) l.node)
