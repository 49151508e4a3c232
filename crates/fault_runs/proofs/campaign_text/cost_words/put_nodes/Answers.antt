use Rattle.std.proofs.Common.{List, ℕ, ◌≡◌, ◌++◌, ◌+◌, length, ap, sym, subst, ◌∙◌, rules, arith}
use Rattle.std.specs.Prelude.{map, filter, OnOk}
use Rattle.std.specs.Fmt.{decimal}
use Rattle.std.proofs.lemmas.List.{length-map}
use Rattle.ttp_base.specs.NodeSet.{most_nodes, below, has_node}
use Rattle.campaign.specs.CostText.{listed}
use Rattle.fault_runs.specs.Listing.{dash_for}
use Rattle.fault_runs.proofs.Listing.{joined, listed-behind, node-in}
use Rattle.ttp_world.proofs.ListFacts.{node-out, nodes-length}
use Rattle.fault_runs.proofs.campaign_text.cost_words.put_nodes.Goals as goal
use Rattle.fault_runs.proofs.campaign_text.cost_words.put_nodes.Goals.{then-has+in_ok-put_comma+in_ok-put_number}
use Rattle.fault_runs.proofs.campaign_text.cost_words.put_nodes.Goals.{else-has}

pub loop-node-preserved : goal.loop-node-preserved
loop-node-preserved c =
    let p = has_node c.args.nodes in
    let node = c.loop-node.node in
    elim c.if-has.branch [
      | then-has+in_ok-put_comma+in_ok-put_number w ↦
          let is = sym c.has.ensures ∙ w.if-has.true in (
            w.text-is
                ∙ node-in p node c.args.text.now c.loop-node.text w.put_comma.new.text w.put_number.new.self
                c.loop-node.place is c.loop-node.invariant.0 c.loop-node.invariant.1 w.in_ok-put_comma.ensures
                (w.in_ok-put_number.ensures ∙ ap (λ (n : ℕ). w.put_comma.new.text ++ decimal n) w.from.ensures),
            w.place-is ∙ ap (λ (n : ℕ). n + 1) c.loop-node.invariant.1 ∙ sym (nodes-length p node is),
            omega (arith, w.place-is, c.loop-node.invariant.2),
          )
      | else-has w ↦
          let none = node-out p node (sym c.has.ensures ∙ w.if-has.false) in (
            w.text-is ∙ c.loop-node.invariant.0
                ∙ ap (λ (ks : List ℕ). c.args.text.now ++ joined (map decimal ks)) (sym none),
            w.place-is ∙ c.loop-node.invariant.1 ∙ ap (λ (ks : List ℕ). length ks) (sym none),
            omega (arith, w.place-is, c.loop-node.invariant.2),
          )
    ]

pub returns : goal.returns
returns c =
    let p = has_node c.args.nodes in
    let end : c.loop-node.node ≡ most_nodes = search rules in
    let words = map decimal (filter p (below c.loop-node.node)) in
    let count : c.loop-node.place ≡ length words =
    c.loop-node.invariant.1 ∙ sym (length-map (filter p (below c.loop-node.node)) decimal) in
    subst (λ (w : List ℕ). OnOk c.put_dash.result (c.put_dash.new.text ≡ w))
    ((λ i. c.loop-node.invariant.0 i ++ dash_for (count i))
    ∙ listed-behind c.args.text.now words
    ∙ ap (λ (n : ℕ). c.args.text.now ++ listed (map decimal (filter p (below n)))) end)
    c.put_dash.ensures
