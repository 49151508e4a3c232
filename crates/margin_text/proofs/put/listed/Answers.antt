use Rattle.std.proofs.Common.{◌≡◌, List, ℕ, ◌∷◌, ◌++◌, [], length, ap, sym, ◌∙◌, rules, arith}
use Rattle.std.proofs.Common.{length-append}
use Rattle.std.specs.Prelude.{filter}
use Rattle.ttp_base.specs.NodeSet.{most_nodes, below, has_node}
use Rattle.ttp_world.proofs.ListFacts.{one-more, node-out}
use Rattle.margin_text.proofs.put.listed.Goals as goal
use Rattle.margin_text.proofs.put.listed.Goals.{then-has, else-has}

pub loop-node-preserved : goal.loop-node-preserved
loop-node-preserved c =
    let p = has_node c.args.nodes in
    let node = c.loop-node.node in
    elim c.if-has.branch [
      | then-has w ↦
          let more = w.all-is ∙ w.add_node.ensures in (
            more ∙ ap (λ (l : List ℕ). l ++ node ∷ []) c.loop-node.invariant.0
                ∙ sym (one-more p node (sym c.has.ensures ∙ w.if-has.true)),
            (let long = ap length more ∙ length-append c.loop-node.all (node ∷ []) in
                omega (arith, long, c.loop-node.invariant.1)),
          )
      | else-has w ↦ (
        w.all-is ∙ c.loop-node.invariant.0
            ∙ sym (node-out p node (sym c.has.ensures ∙ w.if-has.false)),
        (let long = ap length w.all-is in omega (arith, long, c.loop-node.invariant.1)),
      )
    ]

pub returns : goal.returns
returns c = λ order.
    let end : c.loop-node.node ≡ most_nodes = search rules in
    c.loop-node.invariant.0 ∙ ap (λ (n : ℕ). filter (has_node c.args.nodes) (below n)) end ∙ order
