use Rattle.std.proofs.Common.{◌≡◌, ℕ, ◌+◌, ◌*◌, ◌<◌, List, length, get_or, ap, subst, sym, ◌∙◌}
use Rattle.std.proofs.lemmas.Option.{get_or_from_slice_get}
use Rattle.run_rows.proofs.RowPlaces.{length-rows_in, place-lt, row-at}
use Rattle.run_rows.specs.Rows.{RunShown, node_row, rows_in, run_slot}
use Rattle.run_rows.specs.declared.row.NodeRow.{NodeRow}
use Rattle.run_rows.proofs.rows.RunRows.row.Goals as goal

pub get-requires : goal.get-requires
get-requires c =
    let r = c.self.inside in
    let n = length r.list.now.slots in
    let index : c.args.slot * c.from-nodes.result + c.from.result ≡ c.args.slot * n + c.args.node =
    λ i. c.args.slot * (c.from-nodes.ensures ∙ c.nodes.ensures) i + c.from.ensures i in
    subst (λ (m : ℕ). m < length r.rows) (sym index)
    (subst (λ (m : ℕ). c.args.slot * n + c.args.node < m)
    (sym (ap length c.self.invariant.rows ∙ length-rows_in r.list.now r.script.now r.slots))
    (place-lt r.slots c.args.slot c.args.node n (rw (← c.self.view_is) at c.requires.slot)
    (rw (← c.self.view_is) at c.requires.node)))

pub returns : goal.returns
returns c =
    let r = c.self.inside in
    let n = length r.list.now.slots in
    let d = c.get.result.now in
    let index : c.args.slot * c.from-nodes.result + c.from.result ≡ c.args.slot * n + c.args.node =
    λ i. c.args.slot * (c.from-nodes.ensures ∙ c.nodes.ensures) i + c.from.ensures i in
    sym (get_or_from_slice_get r.rows (c.args.slot * c.from-nodes.result + c.from.result) d d c.get.ensures)
    ∙ ap (λ (rows : List NodeRow). get_or rows (c.args.slot * c.from-nodes.result + c.from.result) d)
    c.self.invariant.rows
    ∙ ap (λ (m : ℕ). get_or (rows_in r.list.now r.script.now r.slots) m d) index
    ∙ row-at r.list.now r.script.now r.slots c.args.slot c.args.node d (rw (← c.self.view_is) at c.requires.slot)
    (rw (← c.self.view_is) at c.requires.node)
    ∙ ap (λ (run : RunShown). node_row c.args.node (run_slot run c.args.slot)) c.self.view_is
