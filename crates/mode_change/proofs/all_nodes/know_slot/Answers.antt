use Rattle.std.proofs.Common.{◌∙◌, ◌+◌, ◌<◌, sym, subst, length, get_or, set, arith}
use Rattle.mode_change.proofs.Nodes.{IsEntering, chosen-is, entering-all, entering-first}
use Rattle.mode_change.proofs.Nodes.{entering-next, entry-shown, knows-next, old-is}
use Rattle.mode_change.proofs.all_nodes.know_slot.Goals as goal

pub loop-node-init : goal.loop-node-init
loop-node-init c = entering-first c.args.plant.now c.args.chosen.now c.args.nodes.now c.args.list.now

pub loop-node-preserved : goal.loop-node-preserved
loop-node-preserved c =
    let plant = c.args.plant.now in
    let chosen = c.args.chosen.now in
    let list = c.args.list.now in
    let i = c.loop-node.node in
    let nodes = c.loop-node.nodes in
    let at = c.from-k.ensures in
    let long = c.requires.stepped.known.count in
    let old = get_or nodes c.from-k.result c.index-nodes-k.result in
    let new = c.node_after-after.result in
    let sent = c.index-chosen-k.result in
    let inside : i < length list.slots = omega arith in
    subst (λ j. IsEntering plant chosen c.args.nodes.now (set nodes j new) list (i + 1)) (sym at)
    (entering-next plant chosen c.args.nodes.now nodes list i c.loop-node.invariant inside old new
    long
    (old-is plant chosen c.args.nodes.now nodes list i c.loop-node.invariant inside c.from-k.result
    c.index-nodes-k.result long at)
    (λ script row history past knows. knows-next plant chosen list script row history past i inside old new
    c.node-entry.result.entry sent _ knows
    (entry-shown plant chosen list script row history past i inside c.node-entry.result c.node-entry.ensures.shows)
    (c.index-chosen-k.is
    ∙ chosen-is plant chosen list script row history past i inside c.from-k.result c.index-chosen-k.result at)
    c.delivered.ensures c.node_after-after.ensures.clock c.node_after-after.ensures.modes
    c.node_after-after.ensures.live c.node_after-after.ensures.small))

pub returns : goal.returns
returns c script row history past known =
    entering-all c.args.plant.now c.args.chosen.now c.args.nodes.now c.loop-node.nodes c.args.list.now c.loop-node.node
    c.loop-node.invariant (omega arith) script row history past known
