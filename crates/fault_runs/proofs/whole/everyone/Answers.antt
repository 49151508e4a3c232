use Rattle.fault_runs.proofs.Words.{◌<◌, List, ℕ, true, ap, refl, ◌∙◌, arith, nodes-most}
use Rattle.ttp_base.specs.NodeSet.{most_nodes, with_node}
use Rattle.ttp_base.proofs.NodeLists.{with_node-next}
use Rattle.fault_runs.proofs.whole.everyone.Goals as goal

pub loop-node-preserved : goal.loop-node-preserved
loop-node-preserved c =
    let node = c.loop-node.node in
    let few = nodes-most c.args.list.now c.requires in
    let small : node < most_nodes = omega (arith, few, c.nodes-node-end.ensures, c.loop-node-test.true) in
    c.with-all.ensures ∙ ap (λ (s : List ℕ). with_node s node) c.loop-node.invariant
    ∙ with_node-next (λ _. true) node small refl
