use Rattle.std.proofs.Common.{◌∙◌, List, ap, arith, take_all}
use Rattle.std.specs.Prelude.{filter}
use Rattle.ttp_base.specs.NodeSet.{most_nodes, below, has_node}
use Rattle.campaign.specs.declared.cost.Leave.{Leave}
use Rattle.fault_pairs.specs.Classes.{left_nodes}
use Rattle.pair_runs.proofs.Harms.{leave-small, left-more}
use Rattle.pair_runs.proofs.harm.left_nodes.Goals as goal

pub with-left-requires : goal.with-left-requires
with-left-requires c =
    leave-small c.args.leaves.now c.loop-leave.leave-index _ c.requires c.loop-leave-test.true

pub loop-leave-preserved : goal.loop-leave-preserved
loop-leave-preserved c =
    (rw c.loop-leave.invariant at c.with-left.ensures)
    ∙ left-more c.args.leaves.now c.loop-leave.leave-index _ c.requires c.loop-leave-test.true

pub returns : goal.returns
returns c =
    c.loop-leave.invariant
    ∙ ap (λ (leaves : List Leave). filter (has_node (left_nodes leaves)) (below most_nodes))
    (take_all c.loop-leave.leave-index c.args.leaves.now (omega (arith, c.loop-leave-test.false)))
    ∙ c.requires
