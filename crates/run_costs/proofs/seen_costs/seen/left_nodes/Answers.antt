use Rattle.std.proofs.Common.{◌<◌, List, ℕ, Bool, None, get_or, sym, ap, ◌∙◌, arith}
use Rattle.std.specs.Prelude.{is_some}
use Rattle.ttp_base.specs.NodeSet.{most_nodes, with_node}
use Rattle.ttp_base.proofs.NodeLists.{with_node-next, filter-next}
use Rattle.run_costs.proofs.seen_costs.seen.left_nodes.Goals as goal
use Rattle.run_costs.proofs.seen_costs.seen.left_nodes.Goals.{then-is_some, else-is_some}

pub loop-node-preserved : goal.loop-node-preserved
loop-node-preserved c =
    let node = c.loop-node.node in
    let p = λ (k : ℕ). is_some (get_or c.args.left.now k None) in
    let small : node < most_nodes = omega (arith, c.requires, c.loop-node-test.true) in
    let told = c.is_some.ensures ∙ ap p c.from.ensures in
    elim c.if-is_some.branch [
      | then-is_some w ↦
          w.all-is ∙ w.with-all.ensures
          ∙ ap (λ (members : List ℕ). with_node members node) c.loop-node.invariant
          ∙ with_node-next p node small (sym told ∙ w.if-is_some.true)
      | else-is_some w ↦
          w.all-is ∙ c.loop-node.invariant
          ∙ filter-next p node small (sym told ∙ w.if-is_some.false)
    ]
