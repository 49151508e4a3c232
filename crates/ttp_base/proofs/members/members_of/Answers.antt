use Rattle.std.proofs.Common.{◌≡◌, ℕ, ◌<◌, Bool, ap, ◌∙◌, arith}
use Rattle.std.specs.Prelude.{◌==◌}
use Rattle.std.specs.List.{filter}
use Rattle.std.specs.Int.{bit_at}
use Rattle.std.proofs.lemmas.Bool.{eq-eqb, ne_eqb}
use Rattle.ttp_base.specs.NodeSet.{most_nodes, below, with_node, members_in}
use Rattle.ttp_base.proofs.NodeLists.{with_node-next, filter-next}
use Rattle.ttp_base.proofs.members.members_of.Goals as goal
use Rattle.ttp_base.proofs.members.members_of.Goals.{then-word-node-eq1, else-word-node-eq1}

pub loop-node-preserved : goal.loop-node-preserved
loop-node-preserved c =
    let is_set : ℕ → Bool = λ k. bit_at c.args.word k == 1 in
    let node = c.loop-node.node in
    let small : node < most_nodes = omega arith in
    elim c.if-word-node-eq1.branch [
      | then-word-node-eq1 w ↦
          w.members-is ∙ w.with-members.ensures ∙ ap (λ s. with_node s node) c.loop-node.invariant
          ∙ with_node-next is_set node small (eq-eqb (bit_at c.args.word node) 1 w.if-word-node-eq1.true)
      | else-word-node-eq1 w ↦
          w.members-is ∙ c.loop-node.invariant
          ∙ filter-next is_set node small (ne_eqb (bit_at c.args.word node) 1 w.if-word-node-eq1.false)
    ]

pub returns : goal.returns
unfolding members_in
returns c =
    let all : c.loop-node.node ≡ most_nodes = omega arith in
    c.loop-node.invariant ∙ ap (λ n. filter (λ k. bit_at c.args.word k == 1) (below n)) all
