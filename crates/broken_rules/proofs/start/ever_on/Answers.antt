use Rattle.std.proofs.Common.{ℕ, ◌<◌, Bool, ap, ◌∙◌, rules}
use Rattle.ttp_base.proofs.NodeLists.{with_node-next, filter-next}
use Rattle.ttp_base.specs.NodeSet.{most_nodes, with_node}
use Rattle.ttp_world.specs.Script.{is_ever_on}
use Rattle.broken_rules.proofs.start.ever_on.Goals as goal
use Rattle.broken_rules.proofs.start.ever_on.Goals.{then-is_ever_on, else-is_ever_on}

pub loop-node-preserved : goal.loop-node-preserved
loop-node-preserved c =
    let is_in : ℕ → Bool = is_ever_on c.args.script.now in
    let node = c.loop-node.node in
    let small : node < most_nodes = search rules in
    elim c.if-is_ever_on.branch [
      | then-is_ever_on w ↦
          w.on-is ∙ w.with-on.ensures ∙ ap (λ s. with_node s node) c.loop-node.invariant
          ∙ with_node-next is_in node small (search rules)
      | else-is_ever_on w ↦ w.on-is ∙ c.loop-node.invariant ∙ filter-next is_in node small (search rules)
    ]
