use Rattle.std.proofs.Common.{ℕ, ◌<◌, Bool, ap, ◌∙◌, rules}
use Rattle.ttp_base.proofs.NodeLists.{with_node-next, filter-next}
use Rattle.ttp_base.specs.NodeSet.{most_nodes, with_node}
use Rattle.ttp_world.specs.Hypothesis.{is_steady}
use Rattle.broken_faults.proofs.few.left_of.Goals as goal
use Rattle.broken_faults.proofs.few.left_of.Goals.{then-is_steady, else-is_steady}

pub loop-node-preserved : goal.loop-node-preserved
loop-node-preserved c =
    let is_in : ℕ → Bool = is_steady c.args.list.now c.args.script.now c.args.faulty in
    let node = c.loop-node.node in
    let small : node < most_nodes = search rules in
    elim c.if-is_steady.branch [
      | then-is_steady w ↦
          w.left-is ∙ w.with-left.ensures ∙ ap (λ s. with_node s node) c.loop-node.invariant
          ∙ with_node-next is_in node small (search rules)
      | else-is_steady w ↦ w.left-is ∙ c.loop-node.invariant ∙ filter-next is_in node small (search rules)
    ]
