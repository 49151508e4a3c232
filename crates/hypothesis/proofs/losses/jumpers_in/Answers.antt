use Rattle.hypothesis.proofs.Words.{ℕ, ◌<◌, Bool, ap, ◌∙◌, rules, most_nodes, with_node, with_node-next, filter-next}
use Rattle.hypothesis.proofs.Words.{jumps_now}
use Rattle.hypothesis.proofs.losses.jumpers_in.Goals as goal
use Rattle.hypothesis.proofs.losses.jumpers_in.Goals.{then-jumps_now, else-jumps_now}

pub loop-node-preserved : goal.loop-node-preserved
loop-node-preserved c =
    let is_in : ℕ → Bool = jumps_now c.args.script.now c.args.faulty c.args.slot in
    let node = c.loop-node.node in
    let small : node < most_nodes = search rules in
    elim c.if-jumps_now.branch [
      | then-jumps_now w ↦
          w.jumpers-is ∙ w.with-jumpers.ensures ∙ ap (λ s. with_node s node) c.loop-node.invariant
          ∙ with_node-next is_in node small (search rules)
      | else-jumps_now w ↦ w.jumpers-is ∙ c.loop-node.invariant ∙ filter-next is_in node small (search rules)
    ]
