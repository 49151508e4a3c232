use Rattle.picture_text.proofs.Words.{◌∙◌, ap, map, below, node_at, node_cell, column_x, row_y}
use Rattle.picture_text.proofs.Words.{subst, Puts}
use Rattle.shown_slot.specs.Nodes.{is_refused}
use Rattle.ttp_base.proofs.Puts.{puts_both}
use Rattle.picture_text.proofs.cells.put_cells.Goals as goal

pub returns : goal.returns
returns g c =
    let n = c.args.layout.head.nodes in
    let span = c.args.layout.span in
    let t = c.args.slot in
    let refused = c.is_refused.ensures ∙ ap is_refused c.nodes-2.ensures.value in
    puts_both
    (puts_both (puts_both c.put_number.ensures c.put_round.ensures)
    (subst (Puts c.put_round.new.sheet.failed (g.K.Sink.output c.put_round.new.out) c.put_node_cells.new.sheet.failed
    (g.K.Sink.output c.put_node_cells.new.out))
    (λ j. map (λ k. node_cell c.args.layout.head t k (node_at c.args.shown.now k) (c.held_by_most.ensures j) (refused j)
    (column_x n span t) (row_y n span t k)) (below n))
    c.put_node_cells.ensures))
    (puts_both c.put_members_cell.ensures c.put_clocks_cells.ensures)
