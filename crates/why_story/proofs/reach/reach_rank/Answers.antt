use Rattle.std.proofs.Common.{◌-◌, arith}
use Rattle.why_story.specs.Passes.{of_rank, rank_back}
use Rattle.why_story.specs.RunSource.{source_slots, spot_at}
use Rattle.why_story.proofs.Reaching.{Reaches-left, Reaches-piece, rank_back-next, rank_back-none}
use Rattle.why_story.proofs.reach.reach_rank.Goals as goal

pub loop-node-preserved : goal.loop-node-preserved
loop-node-preserved g c =
    let run = source_slots (g.C.Causes.source c.args.causes.now) in
    let node = c.loop-node.node in (
      omega (arith, c.loop-node.invariant.0),
      λ count marked slot are.
          Reaches-piece run count c.args.reach.now.told marked (rank_back run c.args.slot c.args.rank c.args.nodes)
          (rank_back run c.args.slot c.args.rank node) (of_rank run c.args.rank (spot_at c.args.slot (node - 1)))
          (rank_back run c.args.slot c.args.rank (node - 1)) c.loop-node.reach _
          (c.loop-node.invariant.1 count marked slot are)
          (rank_back-next run c.args.slot c.args.rank node (node - 1) (omega (arith, c.loop-node-test.true)))
          (λ m marks. c.in_ok-reach_entry.ensures count m slot marks),
    )

pub returns : goal.returns
returns g c = λ count marked slot are.
    let run = source_slots (g.C.Causes.source c.args.causes.now) in
    Reaches-left run count c.args.reach.now.told marked (rank_back run c.args.slot c.args.rank c.args.nodes)
    (rank_back run c.args.slot c.args.rank c.loop-node.node) c.loop-node.reach
    (c.loop-node.invariant.1 count marked slot are)
    (rank_back-none run c.args.slot c.args.rank c.loop-node.node (omega (arith, c.loop-node-test.false)))
