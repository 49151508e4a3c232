use Rattle.std.proofs.Common.{ℕ, ◌<◌, Bool, ap, ◌∙◌, rules}
use Rattle.ttp_base.proofs.NodeLists.{with_node-next, filter-next}
use Rattle.ttp_base.specs.NodeSet.{most_nodes, with_node}
use Rattle.ttp_world.specs.Medl.{may_start}
use Rattle.broken_rules.proofs.start.starters_of.Goals as goal
use Rattle.broken_rules.proofs.start.starters_of.Goals.{then-get, else-get}

pub loop-node-preserved : goal.loop-node-preserved
loop-node-preserved c =
    let is_in : ℕ → Bool = may_start c.args.list.now in
    let node = c.loop-node.node in
    let small : node < most_nodes = search rules in
    elim c.if-get.branch [
      | then-get w ↦
          w.starters-is ∙ w.with-starters.ensures ∙ ap (λ s. with_node s node) c.loop-node.invariant
          ∙ with_node-next is_in node small (search rules)
      | else-get w ↦ w.starters-is ∙ c.loop-node.invariant ∙ filter-next is_in node small (search rules)
    ]
