use Rattle.picture_text.proofs.Words.{◌∙◌, ap, sym, ◌≤◌, ◌++◌, List, ℕ, length, arith, append_assoc, length-append}
use Rattle.picture_text.proofs.Words.{length-decimal-le, node_at, holds, each_node}
use Rattle.std.proofs.Common.{decimal}
use Rattle.picture_text.proofs.Holders.{text-passes, read_node}
use Rattle.ttp_world.proofs.ListFacts.{node-out as fails}
use Rattle.picture_text.proofs.members_cell.put_holders.Goals as goal
use Rattle.picture_text.proofs.members_cell.put_holders.Goals.{then-holds, else-holds}

pub loop-k-preserved : goal.loop-k-preserved
loop-k-preserved c =
    let at = read_node c.args.slot.now c.nodes-nodes.result.now c.loop-k.k c.index-nodes-k.result
    c.nodes-nodes.ensures.value c.index-nodes-k.is c.loop-k-test.true in
    elim c.if-holds.branch [
      | then-holds w ↦
          let more = text-passes (λ k. holds c.args.members (node_at c.args.slot.now k)) c.loop-k.k
          (ap (holds c.args.members) at ∙ sym c.holds.ensures ∙ w.if-holds.true) in
          let few : length (decimal c.loop-k.k) ≤ 2 = length-decimal-le 2 c.loop-k.k (omega arith) (omega arith)
          (omega arith) in
          let text = w.line-is ∙ w.put_number.ensures
          ∙ ap (λ (l : List ℕ). l ++ decimal c.loop-k.k) w.put_text.ensures in
          record {
            text = text ∙ rw (c.loop-k.invariant.text, more) (simp append_assoc);
            short = rw text (simp length-append (omega arith));
          }
      | else-holds w ↦
          let same = ap each_node (fails (λ k. holds c.args.members (node_at c.args.slot.now k)) c.loop-k.k
          (ap (holds c.args.members) at ∙ sym c.holds.ensures ∙ w.if-holds.false)) in
          record {
            text = w.line-is ∙ c.loop-k.invariant.text ∙ ap (λ (l : List ℕ). c.args.line.now ++ l) (sym same);
            short = rw w.line-is (omega arith);
          }
    ]
