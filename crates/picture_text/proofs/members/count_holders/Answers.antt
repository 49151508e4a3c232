use Rattle.picture_text.proofs.Words.{◌∙◌, ap, sym, length, arith, node_at, holds}
use Rattle.picture_text.proofs.Holders.{read_node}
use Rattle.ttp_world.proofs.ListFacts.{node-out as fails, nodes-length as count-passes}
use Rattle.picture_text.proofs.members.count_holders.Goals as goal
use Rattle.picture_text.proofs.members.count_holders.Goals.{then-holds, else-holds}

pub loop-k-preserved : goal.loop-k-preserved
loop-k-preserved c =
    let at = read_node c.args.slot.now c.nodes-nodes.result.now c.loop-k.k c.index-nodes-k.result
    c.nodes-nodes.ensures.value c.index-nodes-k.is c.loop-k-test.true in
    elim c.if-holds.branch [
      | then-holds w ↦
          let one = count-passes (λ k. holds c.args.members (node_at c.args.slot.now k)) c.loop-k.k
          (ap (holds c.args.members) at ∙ sym c.holds.ensures ∙ w.if-holds.true) in
          record { count = omega (arith, one); few = omega arith }
      | else-holds w ↦
          let same = ap length (fails (λ k. holds c.args.members (node_at c.args.slot.now k)) c.loop-k.k
          (ap (holds c.args.members) at ∙ sym c.holds.ensures ∙ w.if-holds.false)) in
          record { count = omega (arith, same); few = omega arith }
    ]
