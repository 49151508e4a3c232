use Rattle.std.proofs.Common.{ℤ, ◌≤◌, unsigned_abs, arith, of_z, to_z, w64, ◌≡◌, ℕ, ◌+◌}
use Rattle.std.proofs.Common.{◌*◌, ◌<◌, List, length, get_or, ap, subst, sym, ◌∙◌}
use Rattle.std.proofs.lemmas.Int.{fits_signed_from_abs, to_z-of_z}
use Rattle.std.proofs.lemmas.Option.{get_or_from_slice_get}
use Rattle.run_rows.proofs.RowPlaces.{length-rows_in, place-lt, row-at}
use Rattle.controller.specs.Limits.{most_clock}
use Rattle.run_rows.specs.Rows.{RunShown, node_row, rows_in, run_slot, slot_in}
use Rattle.run_rows.specs.declared.row.NodeRow.{NodeRow}
use Rattle.ttp_world.specs.World.{node_of}
use Rattle.run_rows.proofs.rows.RunRows.clock.Goals as goal
use Rattle.run_rows.proofs.rows.RunRows.clock.Goals.{After-get}

pub get-requires : goal.get-requires
get-requires c =
    let r = c.self.inside in
    let n = length r.list.now.slots in
    let index : c.args.slot * c.from-nodes.result + c.from.result ≡ c.args.slot * n + c.args.node =
    λ i. c.args.slot * (c.from-nodes.ensures ∙ c.nodes.ensures) i + c.from.ensures i in
    subst (λ (m : ℕ). m < length r.rows) (sym index)
    (subst (λ (m : ℕ). c.args.slot * n + c.args.node < m)
    (sym (ap length c.self.invariant.rows ∙ length-rows_in r.list.now r.script.now r.slots))
    (place-lt r.slots c.args.slot c.args.node n (rw (← c.self.view_is) at c.requires.slot)
    (rw (← c.self.view_is) at c.requires.node)))

row_is : (c : After-get)
    → c.get.result.now ≡ node_row c.args.node (slot_in c.self.inside.list.now c.self.inside.script.now c.args.slot)
row_is c =
    let r = c.self.inside in
    let n = length r.list.now.slots in
    let d = c.get.result.now in
    let index : c.args.slot * c.from-nodes.result + c.from.result ≡ c.args.slot * n + c.args.node =
    λ i. c.args.slot * (c.from-nodes.ensures ∙ c.nodes.ensures) i + c.from.ensures i in
    sym (get_or_from_slice_get r.rows (c.args.slot * c.from-nodes.result + c.from.result) d d c.get.ensures)
    ∙ ap (λ (rows : List NodeRow). get_or rows (c.args.slot * c.from-nodes.result + c.from.result) d)
    c.self.invariant.rows
    ∙ ap (λ (m : ℕ). get_or (rows_in r.list.now r.script.now r.slots) m d) index
    ∙ row-at r.list.now r.script.now r.slots c.args.slot c.args.node d (rw (← c.self.view_is) at c.requires.slot)
    (rw (← c.self.view_is) at c.requires.node)

near : (c : After-get) → unsigned_abs c.get.result.now.begun.clock ≤ most_clock
near c =
    subst (λ (z : ℤ). unsigned_abs z ≤ most_clock) (sym (ap (λ (row : NodeRow). row.begun.clock) (row_is c)))
    (c.self.invariant.near c.args.slot c.args.node (rw (← c.self.view_is) at c.requires.slot)
    (rw (← c.self.view_is) at c.requires.node))

same : (c : After-get) → to_z w64 (of_z w64 c.get.result.now.begun.clock) ≡ c.get.result.now.begun.clock
same c =
    to_z-of_z w64 c.get.result.now.begun.clock
    (fits_signed_from_abs w64 c.get.result.now.begun.clock (omega (arith, near c)))

pub returns-clause-value : goal.returns-clause-value
returns-clause-value c =
    let got = (goal.at.returns-clause-value c).After-get in
    same got ∙ ap (λ (row : NodeRow). row.begun.clock) (row_is got)
    ∙ ap (λ (run : RunShown). (node_of (run_slot run c.args.slot).begun c.args.node).clock) c.self.view_is

pub returns-clause-near : goal.returns-clause-near
returns-clause-near c =
    let got = (goal.at.returns-clause-near c).After-get in
    subst (λ (z : ℤ). unsigned_abs z ≤ most_clock) (sym (same got)) (near got)
