use Rattle.std.proofs.Common.{◌≤◌, ap, ◌∙◌, arith}
use Rattle.ttp_base.specs.NodeSet.{has_node}
use Rattle.campaign.specs.Cost.{has_two}
use Rattle.ttp_world.specs.ZerosWorld.{zeros_world}
use Rattle.ttp_world.proofs.Lists.{nodes-most}
use Rattle.run_costs.proofs.Rows.{shown-memberships}
use Rattle.run_costs.proofs.seen_run.SeenRun.are_split.Goals as goal

pub returns : goal.returns
returns c = λ script slots meant run some same.
    let list = c.args.list.now in
    c.are_split.ensures
    ∙ ap has_two
    (shown-memberships list script (zeros_world list script slots) c.states.result.now (has_node c.args.among) meant
    (c.states.ensures script slots run.stands some) same)

pub are_split-requires : goal.are_split-requires
are_split-requires c =
    let run = c.requires.run in
    let shown = c.states.ensures run.0 run.1 run.2.stands run.3 in
    omega (arith, shown.count, nodes-most c.args.list.now c.requires.valid)
