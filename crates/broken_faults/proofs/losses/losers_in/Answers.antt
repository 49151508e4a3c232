use Rattle.std.proofs.Common.{ℕ, ◌<◌, Bool, ◌&&◌, ap, ◌∙◌, rules}
use Rattle.ttp_base.proofs.NodeLists.{with_node-next, filter-next}
use Rattle.ttp_base.specs.NodeSet.{most_nodes, with_node}
use Rattle.ttp_world.specs.Hypothesis.{loses}
use Rattle.hypothesis.specs.Standing.{told_start}
use Rattle.broken_faults.specs.Faults.{is_to_hear, faulty_in}
use Rattle.broken_faults.proofs.losses.losers_in.Goals as goal
use Rattle.broken_faults.proofs.losses.losers_in.Goals.{then-is_loser, else-is_loser}

pub loop-node-preserved : goal.loop-node-preserved
loop-node-preserved c =
    let list = c.args.list.now in
    let script = c.args.script.now in
    let faulty = faulty_in list script (told_start c.args.start) c.args.slot in
    let is_in : ℕ → Bool = λ r. is_to_hear list script faulty c.args.sender c.args.slot r
    && loses script c.args.sender c.args.slot r in
    let node = c.loop-node.node in
    let small : node < most_nodes = search rules in
    elim c.if-is_loser.branch [
      | then-is_loser w ↦
          w.lost-is ∙ w.with-lost.ensures ∙ ap (λ s. with_node s node) c.loop-node.invariant
          ∙ with_node-next is_in node small (search rules)
      | else-is_loser w ↦ w.lost-is ∙ c.loop-node.invariant ∙ filter-next is_in node small (search rules)
    ]
