use Rattle.std.proofs.Common.{true, ℕ, None, refl, get_or, length, ap, ◌∙◌}
use Rattle.std.specs.List.{filter_map}
use Rattle.ttp_base.specs.NodeSet.{below}
use Rattle.campaign.specs.Cost.{newest_leave}
use Rattle.ttp_world.specs.ZerosWorld.{zeros_world}
use Rattle.run_costs.proofs.Nodes.{filter_map_agree-below}
use Rattle.run_costs.proofs.Rows.{shown-memberships}
use Rattle.run_costs.proofs.seen_costs.seen.SeenCost.cost.Goals as goal

pub returns : goal.returns
returns c = λ script slots seen shown.
    let list = c.args.list.now in
    let history = zeros_world list script slots in
    let left = λ (k : ℕ). get_or c.args.self.now.left k None in
    let gone =
    c.in_ok-leaves.ensures ∙ ap (λ (n : ℕ). filter_map left (below n)) c.nodes.ensures
    ∙ filter_map_agree-below left (newest_leave history) (length list.slots) seen.left in
    let end =
    c.in_ok-memberships.ensures
    ∙ shown-memberships list script history c.args.states.now (λ k. true) (λ k. true) shown (λ k node. refl) in
    λ i. record { left = gone i; hurt = seen.hurt i; split = seen.split i; end = end i }
