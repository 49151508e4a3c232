use Rattle.std.proofs.Common.{◌≡◌, Bool, true, ◌&&◌, not, ap, sym, ◌∙◌}
use Rattle.entry_causes.specs.Senders.{sends_in}
use Rattle.entry_causes.proofs.FromBelow.{is_among-where, slot_in-number, slot_in-script}
use Rattle.run_rows.specs.Rows.{run_slot}
use Rattle.run_rows.specs.declared.row.NodeRow.{NodeRow}
use Rattle.ttp_world.specs.Events.{is_among}
use Rattle.ttp_world.specs.Medium.{is_sending}
use Rattle.ttp_world.specs.Script.{has_send_fault}
use Rattle.ttp_world.specs.declared.script.Fault.TheVariants as fault
use Rattle.entry_causes.proofs.senders.is_remaining.Goals as goal

pub returns-then-is_sending : goal.returns-then-is_sending
returns-then-is_sending c =
    let run = c.args.run.now in
    let s = run_slot run c.args.slot in
    let k = c.args.node in
    let ch = c.args.channel in
    let sent : sends_in s k ≡ true =
    ap (λ (r : NodeRow). is_sending r.entry) (sym c.row.ensures) ∙ sym c.is_sending.ensures ∙ c.if-is_sending.true in
    let scripts = c.script.ensures.value ∙ sym (slot_in-script run.list run.script c.args.slot) in
    let numbers = sym (slot_in-number run.list run.script c.args.slot) in
    let silenced =
    c.is_among.ensures ∙ ap (λ i. is_among ch i.send_silence) c.incidents.ensures.value
    ∙ is_among-where (λ other. has_send_fault c.script.result.now fault.Silence k other c.args.slot) ch
    ∙ (λ i. has_send_fault (scripts i) fault.Silence k ch (numbers i)) in
    ap not silenced
    ∙ ap (λ (b : Bool). b && not (has_send_fault s.begun.script fault.Silence k ch s.begun.number)) (sym sent)
