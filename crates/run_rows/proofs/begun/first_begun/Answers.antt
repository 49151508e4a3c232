use Rattle.std.proofs.Common.{◌<◌, length, arith}
use Rattle.ttp_world.specs.ZerosWorld.{zeros_world}
use Rattle.run_rows.proofs.Filled.{begun-more, kept-at}
use Rattle.ttp_world.proofs.Lists.{nodes-most}
use Rattle.ttp_world.specs.World.{node_past}
use Rattle.run_rows.proofs.begun.first_begun.Goals as goal

pub loop-node-preserved : goal.loop-node-preserved
loop-node-preserved c =
    let list = c.args.list.now in
    let script = c.args.script.now in
    let node = c.loop-node.node in
    let few = nodes-most list c.requires.list in
    let less : node < length list.slots = omega (arith, c.loop-node-test.true, c.nodes-node-end.ensures) in
    let kept =
    kept-at list script 0 (length list.slots) c.from-at.result node c.args.kept.now c.index-kept-at.result
    c.requires.kept few c.from-at.ensures less in
    begun-more list script 0 node c.from-at.result c.loop-node.begun c.begun_by.result c.from-at.ensures
    (omega (arith, less, few)) c.loop-node.invariant
    (c.begun_by.ensures.value (node_past list script (zeros_world list script 0) node) c.off.ensures
    kept)
    c.begun_by.ensures.near
