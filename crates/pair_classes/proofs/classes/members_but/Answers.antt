use Rattle.std.proofs.Common.{◌≡◌, ◌<◌, List, ℕ, Bool, ◌&&◌, not, sym, ap, ◌∙◌, arith, rules}
use Rattle.std.specs.Prelude.{filter}
use Rattle.ttp_base.specs.NodeSet.{most_nodes, below, has_node, with_node}
use Rattle.ttp_base.proofs.NodeLists.{with_node-next, filter-next}
use Rattle.pair_classes.proofs.Members.{members-taken}
use Rattle.pair_classes.proofs.classes.members_but.Goals as goal
use Rattle.pair_classes.proofs.classes.members_but.Goals.{then-is_member_but, else-is_member_but}

pub loop-node-preserved : goal.loop-node-preserved
loop-node-preserved c =
    let node = c.loop-node.node in
    let p : ℕ → Bool = λ k. has_node c.args.one k && not (has_node c.args.other k) in
    let small : node < most_nodes = omega (arith, c.loop-node-test.true) in
    elim c.if-is_member_but.branch [
      | then-is_member_but w ↦
          w.members-is ∙ w.with-members.ensures ∙ ap (λ (s : List ℕ). with_node s node) c.loop-node.invariant
          ∙ with_node-next p node small (sym c.is_member_but.ensures ∙ w.if-is_member_but.true)
      | else-is_member_but w ↦
          w.members-is ∙ c.loop-node.invariant
          ∙ filter-next p node small (sym c.is_member_but.ensures ∙ w.if-is_member_but.false)
    ]

pub returns : goal.returns
returns c =
    let p : ℕ → Bool = λ k. has_node c.args.one k && not (has_node c.args.other k) in
    let end : c.loop-node.node ≡ most_nodes = search rules in
    c.loop-node.invariant ∙ ap (λ (n : ℕ). filter p (below n)) end
    ∙ members-taken (λ k. not (has_node c.args.other k)) c.args.one c.requires
