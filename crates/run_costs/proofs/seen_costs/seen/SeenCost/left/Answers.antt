use Rattle.std.proofs.Common.{ℕ, Option, None, get_or, length, ap, sym, ◌∙◌}
use Rattle.std.specs.Prelude.{filter, is_some}
use Rattle.ttp_base.specs.NodeSet.{below}
use Rattle.ttp_base.proofs.NodeSets.{same_sieve}
use Rattle.campaign.specs.Cost.{newest_leave}
use Rattle.ttp_world.specs.ZerosWorld.{zeros_world}
use Rattle.run_costs.proofs.LeftNodes.{nodes-left}
use Rattle.run_costs.proofs.seen_costs.seen.SeenCost.left.Goals as goal

pub returns : goal.returns
returns c = λ script slots seen.
    let list = c.args.list.now in
    let history = zeros_world list script slots in
    let left = λ (k : ℕ). is_some (get_or c.args.self.now.left k None) in
    c.left_nodes.ensures ∙ ap (λ (n : ℕ). filter left (below n)) c.nodes.ensures
    ∙ same_sieve left (λ k. is_some (newest_leave history k)) (length list.slots)
    (λ k node. ap is_some (seen.left k node))
    ∙ sym (nodes-left history (below (length list.slots)))
