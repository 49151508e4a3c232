use Rattle.std.proofs.Common.{◌≡◌, ◌<◌, List, ℕ, Bool, ◌&&◌, not, sym, ap, subst, ◌∙◌, arith, rules}
use Rattle.std.specs.Prelude.{filter, ◌==◌}
use Rattle.ttp_base.specs.NodeSet.{most_nodes, below, has_node, with_node}
use Rattle.ttp_base.proofs.NodeLists.{with_node-next, filter-next}
use Rattle.fault_pairs.specs.Classes.{leaves_by_both}
use Rattle.pair_classes.specs.Ordered.{IsOrdered}
use Rattle.pair_classes.proofs.Members.{members-taken, sieve-ordered}
use Rattle.pair_classes.proofs.classes.third_nodes.Goals as goal
use Rattle.pair_classes.proofs.classes.third_nodes.Goals.{then-is_third, else-is_third}

pub loop-node-preserved : goal.loop-node-preserved
loop-node-preserved c =
    let node = c.loop-node.node in
    let p : ℕ → Bool = λ k. has_node c.args.harms.now.both.left k
    && ((not (k == c.args.first) && not (k == c.args.second))
    && leaves_by_both c.args.harms.now.both c.args.harms.now.one c.args.harms.now.two k) in
    let small : node < most_nodes = omega (arith, c.loop-node-test.true) in
    elim c.if-is_third.branch [
      | then-is_third w ↦
          w.third-is ∙ w.with-third.ensures ∙ ap (λ (s : List ℕ). with_node s node) c.loop-node.invariant
          ∙ with_node-next p node small (sym c.is_third.ensures ∙ w.if-is_third.true)
      | else-is_third w ↦
          w.third-is ∙ c.loop-node.invariant ∙ filter-next p node small (sym c.is_third.ensures ∙ w.if-is_third.false)
    ]

pub returns : goal.returns
returns c =
    let p : ℕ → Bool = λ k. has_node c.args.harms.now.both.left k
    && ((not (k == c.args.first) && not (k == c.args.second))
    && leaves_by_both c.args.harms.now.both c.args.harms.now.one c.args.harms.now.two k) in
    let end : c.loop-node.node ≡ most_nodes = search rules in
    let all = c.loop-node.invariant ∙ ap (λ (n : ℕ). filter p (below n)) end in
    record {
      third = all ∙ members-taken (λ k. (not (k == c.args.first) && not (k == c.args.second)) && leaves_by_both
          c.args.harms.now.both c.args.harms.now.one c.args.harms.now.two k) c.args.harms.now.both.left c.requires.both;
      ordered = subst IsOrdered (sym all) (sieve-ordered p);
    }
