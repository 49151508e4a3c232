use Rattle.std.proofs.Common.{◌*◌, ◌+◌, ◌<◌, arith}
use Rattle.run_rows.proofs.Filled.{kept-more}
use Rattle.ttp_world.proofs.Lists.{nodes-most}
use Rattle.run_rows.proofs.kept.first_kept.Goals as goal

pub loop-node-preserved : goal.loop-node-preserved
loop-node-preserved c =
    let node = c.loop-node.node in
    let few : node < 24 =
    omega (arith, c.loop-node-test.true, c.nodes-node-end.ensures, nodes-most c.args.list.now c.requires) in
    kept-more c.args.list.now c.args.script.now 0 node c.from.result c.loop-node.kept _ c.from.ensures few
    c.loop-node.invariant
    (λ i. record {
      place = c.place_at.ensures i;
      notes = 0;
      limit = 2 * c.nodes.ensures i + node;
    })
