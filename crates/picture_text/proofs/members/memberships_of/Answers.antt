use Rattle.picture_text.proofs.Words.{◌∙◌, sym, ◌≤◌, ◌+◌, length, arith}
use Rattle.picture_text.proofs.Distinct.{taken-holder, taken-other, noted-few}
use Rattle.picture_text.proofs.members.memberships_of.Goals as goal
use Rattle.picture_text.proofs.members.memberships_of.Goals.{then-is_holder, else-is_holder}

pub loop-node-preserved : goal.loop-node-preserved
loop-node-preserved c =
    elim c.if-is_holder.branch [
      | then-is_holder w ↦
          let next = taken-holder c.args.nodes.now c.loop-node.node-index c.node-item.result c.node-item.is
          c.loop-node-test.true (sym c.is_holder.ensures ∙ w.if-is_holder.true) in
          let few = noted-few c.loop-node.found w.bits.result in
          record {
            found = w.found-is ∙ w.note.ensures
                ∙ rw (w.bits.ensures, c.loop-node.invariant.found) (sym next);
            few = rw (w.found-is, w.note.ensures) (omega arith);
          }
      | else-is_holder w ↦
          let next = taken-other c.args.nodes.now c.loop-node.node-index c.node-item.result c.node-item.is
          c.loop-node-test.true (sym c.is_holder.ensures ∙ w.if-is_holder.false) in
          let few : length c.loop-node.found ≤ c.loop-node.node-index + 1 = omega arith in
          record { found = w.found-is ∙ c.loop-node.invariant.found ∙ sym next; few = rw w.found-is few }
    ]
