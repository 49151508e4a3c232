use Rattle.std.proofs.Common.{◌≡◌, Bool, true, ◌&&◌, ap, is_some, sym, ◌∙◌}
use Rattle.causes.specs.LinesOf.{bytes_sent}
use Rattle.entry_causes.specs.Senders.{sends_in}
use Rattle.entry_causes.proofs.FromBelow.{slot_in-list}
use Rattle.run_rows.specs.Rows.{run_slot}
use Rattle.run_rows.specs.declared.row.NodeRow.{NodeRow}
use Rattle.ttp_world.specs.Fitting.{joinable}
use Rattle.ttp_world.specs.Medium.{is_sending}
use Rattle.entry_causes.proofs.bus.sends_joinable.Goals as goal

pub frame_sent-requires-clause-sends : goal.frame_sent-requires-clause-sends
frame_sent-requires-clause-sends c =
    ap (λ (r : NodeRow). is_sending r.entry) (sym c.row.ensures) ∙ sym c.is_sending.ensures ∙ c.if-is_sending.true

pub returns-then-is_sending : goal.returns-then-is_sending
returns-then-is_sending c =
    let run = c.args.run.now in
    let s = run_slot run c.args.slot in
    let k = c.args.node in
    let sent : sends_in s k ≡ true =
    ap (λ (r : NodeRow). is_sending r.entry) (sym c.row.ensures) ∙ sym c.is_sending.ensures ∙ c.if-is_sending.true in
    let lists = c.list.ensures.value ∙ sym (slot_in-list run.list run.script c.args.slot) in
    let bytes = c.as_slice.ensures ∙ c.frame_sent.ensures in
    c.is_some.ensures ∙ ap is_some c.read_explicit.ensures
    ∙ (λ i. is_some (joinable (lists i) (bytes i)))
    ∙ ap (λ (b : Bool). b && is_some (joinable s.begun.list (bytes_sent s.frames k))) (sym sent)

pub returns-else-is_sending : goal.returns-else-is_sending
returns-else-is_sending c =
    let run = c.args.run.now in
    let s = run_slot run c.args.slot in
    let k = c.args.node in
    c.if-is_sending.false
    ∙ ap (λ (b : Bool). b && is_some (joinable s.begun.list (bytes_sent s.frames k)))
    (sym (ap (λ (r : NodeRow). is_sending r.entry) (sym c.row.ensures)
    ∙ sym c.is_sending.ensures ∙ c.if-is_sending.false))
