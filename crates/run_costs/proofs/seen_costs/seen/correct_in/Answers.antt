use Rattle.std.proofs.Common.{◌<◌, List, ℕ, sym, ap, ◌∙◌, arith}
use Rattle.ttp_base.specs.NodeSet.{most_nodes, with_node}
use Rattle.ttp_base.proofs.NodeLists.{with_node-next, filter-next}
use Rattle.ttp_world.specs.Returning.{is_sound}
use Rattle.ttp_world.proofs.Lists.{nodes-most}
use Rattle.run_costs.proofs.seen_costs.seen.correct_in.Goals as goal
use Rattle.run_costs.proofs.seen_costs.seen.correct_in.Goals.{then-is_sound, else-is_sound}

pub loop-node-preserved : goal.loop-node-preserved
loop-node-preserved c =
    let node = c.loop-node.node in
    let p = is_sound c.args.script.now c.args.faulty c.args.slot in
    let few = nodes-most c.args.list.now c.requires.valid in
    let small : node < most_nodes = omega (arith, few, c.nodes-node-end.ensures, c.loop-node-test.true) in
    elim c.if-is_sound.branch [
      | then-is_sound w ↦
          w.correct-is ∙ w.with-correct.ensures ∙ ap (λ (s : List ℕ). with_node s node) c.loop-node.invariant
          ∙ with_node-next p node small (sym c.is_sound.ensures ∙ w.if-is_sound.true)
      | else-is_sound w ↦
          w.correct-is ∙ c.loop-node.invariant
          ∙ filter-next p node small (sym c.is_sound.ensures ∙ w.if-is_sound.false)
    ]
