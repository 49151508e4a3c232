use Rattle.hypothesis.proofs.Words.{ℕ, ◌<◌, Bool, ap, ◌∙◌, rules, most_nodes, with_node, with_node-next, filter-next}
use Rattle.hypothesis.proofs.Words.{is_other}
use Rattle.hypothesis.proofs.losses.others_in.Goals as goal
use Rattle.hypothesis.proofs.losses.others_in.Goals.{then-is_other, else-is_other}

pub loop-node-preserved : goal.loop-node-preserved
loop-node-preserved c =
    let hears : ℕ → Bool = is_other c.args.script.now c.args.faulty c.args.sender c.args.slot in
    let node = c.loop-node.node in
    let small : node < most_nodes = search rules in
    elim c.if-is_other.branch [
      | then-is_other w ↦
          w.others-is ∙ w.with-others.ensures ∙ ap (λ s. with_node s node) c.loop-node.invariant
          ∙ with_node-next hears node small (search rules)
      | else-is_other w ↦ w.others-is ∙ c.loop-node.invariant ∙ filter-next hears node small (search rules)
    ]
