use Rattle.std.proofs.Common.{◌≡◌, ◌++◌, ◌∷◌, [], ℕ, List, ap, sym, ◌∙◌, arith, filter}
use Rattle.ttp_world.proofs.ListFacts.{node-out, one-more}
use Rattle.ttp_base.specs.NodeSet.{below, has_node}
use Rattle.entry_causes.proofs.missed.nodes_of.Goals as goal
use Rattle.entry_causes.proofs.missed.nodes_of.Goals.{then-has+in_ok-push, else-has}

pub loop-node-preserved : goal.loop-node-preserved
loop-node-preserved c =
    let k = c.loop-node.node in
    let h = has_node c.args.set in
    elim c.if-has.branch [
      | then-has+in_ok-push w ↦
          w.list-is ∙ w.in_ok-push.ensures.ok ∙ ap (λ (nodes : List ℕ). nodes ++ k ∷ []) c.loop-node.invariant
          ∙ sym (one-more h k (sym c.has.ensures ∙ w.if-has.true))
      | else-has w ↦ w.list-is ∙ c.loop-node.invariant ∙ sym (node-out h k (sym c.has.ensures ∙ w.if-has.false))
    ]

pub returns : goal.returns
returns c =
    let all : c.loop-node.node ≡ c.args.nodes = omega (arith, c.loop-node-test.false, c.loop-node.auto.node-end) in
    c.loop-node.invariant ∙ ap (λ (n : ℕ). filter (has_node c.args.set) (below n)) all ∙ sym c.requires.set
