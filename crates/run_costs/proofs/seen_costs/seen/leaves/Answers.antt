use Rattle.std.proofs.Common.{◌++◌, [], ℕ, None, get_or, sym, ◌∙◌}
use Rattle.std.specs.List.{cons_option}
use Rattle.run_costs.proofs.Distinct.{items-next}
use Rattle.run_costs.proofs.seen_costs.seen.leaves.Goals as goal

pub loop-node-preserved : goal.loop-node-preserved
loop-node-preserved c =
    let left = λ (k : ℕ). get_or c.args.left.now k None in
    c.in_ok-push_leave.ensures
    ∙ (λ i. c.loop-node.invariant i ++ cons_option (left (c.from.ensures i)) [])
    ∙ sym (items-next left c.loop-node.node _ (λ i. left c.loop-node.node))
