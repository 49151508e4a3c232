use Rattle.picture_text.proofs.Words.{◌∙◌, ap, ℕ, ◌+◌, ◌++◌, codes, row_line, row_y}
use Rattle.std.proofs.Common.{decimal}
use Rattle.picture_text.proofs.Rows.{one_more}
use Rattle.picture_text.proofs.band.put_node_rows.Goals as goal

pub loop-number-preserved : goal.loop-number-preserved
loop-number-preserved g c =
    one_more _ _ _ _ _ _
    (λ k. row_line (row_y c.args.layout.head.nodes c.args.layout.span c.args.slot k + 14) (codes "node " ++ decimal k))
    c.loop-number.number c.make_node_row.new.line c.loop-number.invariant c.write.ensures
    (c.make_node_row.ensures
    ∙ ap (λ (y : ℕ). row_line (y + 14) (codes "node " ++ decimal c.loop-number.number)) c.row_y.ensures.value)
