use Rattle.std.proofs.Common.{ℕ, ◌<◌, Bool, ap, ◌∙◌, rules}
use Rattle.ttp_base.proofs.NodeLists.{with_node-next, filter-next}
use Rattle.ttp_base.specs.NodeSet.{most_nodes, with_node}
use Rattle.ttp_world.specs.Script.{drift_of}
use Rattle.broken_rules.specs.Clocks.{is_past}
use Rattle.broken_rules.proofs.clocks.drifts_past.Goals as goal
use Rattle.broken_rules.proofs.clocks.drifts_past.Goals.{then-is_past, else-is_past}

pub loop-node-preserved : goal.loop-node-preserved
loop-node-preserved c =
    let is_in : ℕ → Bool = λ k. is_past c.args.list.now.drift (drift_of c.args.script.now k) in
    let node = c.loop-node.node in
    let small : node < most_nodes = search rules in
    elim c.if-is_past.branch [
      | then-is_past w ↦
          w.past-is ∙ w.with-past.ensures ∙ ap (λ s. with_node s node) c.loop-node.invariant
          ∙ with_node-next is_in node small (search rules)
      | else-is_past w ↦ w.past-is ∙ c.loop-node.invariant ∙ filter-next is_in node small (search rules)
    ]
