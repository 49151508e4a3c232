use Rattle.std.proofs.Common.{Bool, ℕ, ◌&&◌, not, ap, sym, ◌∙◌}
use Rattle.causes.specs.RunSlots.{entry_in_slot, is_sent, place_of_node}
use Rattle.run_rows.specs.Rows.{run_slot}
use Rattle.run_rows.specs.declared.row.NodeRow.{NodeRow}
use Rattle.entry_causes.proofs.own.answers_node.Goals as goal

pub returns-then-doubts : goal.returns-then-doubts
returns-then-doubts c =
    let s = run_slot c.args.run.now c.args.slot in
    let k = c.args.node in
    sym
    (ap (λ (b : Bool). not b && is_sent (entry_in_slot (place_of_node k s).slot s))
    (sym c.doubts.ensures ∙ c.if-doubts.true))

pub returns : goal.returns
returns c =
    let s = run_slot c.args.run.now c.args.slot in
    let k = c.args.node in
    c.is_sent.ensures ∙ ap (λ (r : NodeRow). is_sent r.entry) c.row.ensures
    ∙ ap (λ (p : ℕ). is_sent (entry_in_slot p s)) c.place_slot.ensures.value
    ∙ sym
    (ap (λ (b : Bool). not b && is_sent (entry_in_slot (place_of_node k s).slot s))
    (sym c.doubts.ensures ∙ c.if-doubts.false))
