use Rattle.std.proofs.Common.{◌+◌, ◌<◌, length, ◌∙◌, arith}
use Rattle.run_rows.proofs.Filled.{begun-at, entry-at}
use Rattle.run_rows.proofs.RowPlaces.{rows-next}
use Rattle.run_rows.proofs.Slots.{node_row-slot_in}
use Rattle.run_rows.specs.Rows.{slot_in}
use Rattle.ttp_world.proofs.Lists.{nodes-most}
use Rattle.run_rows.proofs.rows.push_rows.Goals as goal

pub loop-node-preserved : goal.loop-node-preserved
loop-node-preserved c =
    let list = c.args.list.now in
    let script = c.args.script.now in
    let slot = c.args.slot in
    let node = c.loop-node.node in
    let less : node < length list.slots = omega (arith, c.loop-node-test.true, c.nodes-node-end.ensures) in
    let begun =
    begun-at list script slot (length list.slots) c.from-at.result node c.args.begun.now c.index-begun-at.result
    c.requires.begun (nodes-most list c.requires.list) c.from-at.ensures less in
    let entry =
    entry-at list script slot c.from-at.result node c.states-states.result.now c.index-states-at.result
    (c.states-states.ensures script (slot + 1) c.requires.run (omega arith)) c.from-at.ensures less in
    c.in_ok-push.ensures.ok
    ∙ rows-next (slot_in list script slot) c.loop-node.rows c.args.rows.now node _ c.loop-node.invariant
    (node_row-slot_in list script slot node _ less begun entry)
