use Rattle.std.proofs.Common.{ap, ◌∙◌}
use Rattle.ttp_base.specs.NodeSet.{without_node}
use Rattle.campaign.specs.declared.cost.Cost.{Cost}
use Rattle.margin_runs.proofs.beside.BesideRun.outcome.Goals as goal

pub returns : goal.returns
returns c = λ script slots beside some.
    let node = c.args.self.now.node in
    let cost = c.in_ok-cost.ensures script slots beside.run some in
    let hurt = c.without.ensures ∙ ap (λ (cost : Cost). without_node cost.hurt node) cost in
    let end = ap (λ (cost : Cost). cost.end) cost in
    λ i. record {
      left = c.left.ensures script slots beside.run i;
      hurt = hurt i;
      split = beside.split i;
      end = end i;
    }
