use Rattle.hypothesis.proofs.Words.{ℕ, ◌<◌, Bool, ap, ◌∙◌, rules, most_nodes, with_node, with_node-next, filter-next}
use Rattle.hypothesis.proofs.Words.{starts_in}
use Rattle.hypothesis.proofs.start.starters_in.Goals as goal
use Rattle.hypothesis.proofs.start.starters_in.Goals.{then-starts_in, else-starts_in}

pub loop-node-preserved : goal.loop-node-preserved
loop-node-preserved c =
    let is_in : ℕ → Bool = starts_in c.args.list.now c.args.script.now c.args.slot in
    let node = c.loop-node.node in
    let small : node < most_nodes = search rules in
    elim c.if-starts_in.branch [
      | then-starts_in w ↦
          w.starters-is ∙ w.with-starters.ensures ∙ ap (λ s. with_node s node) c.loop-node.invariant
          ∙ with_node-next is_in node small (search rules)
      | else-starts_in w ↦ w.starters-is ∙ c.loop-node.invariant ∙ filter-next is_in node small (search rules)
    ]
