use Rattle.chart_text.proofs.Words.{ℕ, [], puts_below, subst, sym, arith, IsTally, tally_of, faults_told_of}
use Rattle.chart_text.specs.Chart.{node_sum_lines}
use Rattle.chart_text.proofs.block.put_nodes.Goals as goal

pub loop-node-preserved : goal.loop-node-preserved
loop-node-preserved g c = λ faults are.
    puts_below _ _ _ _ _ _ (node_sum_lines c.args.extent.size c.args.x faults) c.loop-node.node
    (c.loop-node.invariant faults are) (c.put_node.ensures faults
    (subst (λ (m : ℕ). IsTally c.args.extent.size (tally_of c.args.tallies.now.nodes m) []
    (faults_told_of c.loop-node.node faults)) (sym c.from.ensures)
    (are.each c.loop-node.node (omega (arith, c.loop-node-test.true, c.args.extent.nodes.1)))))
