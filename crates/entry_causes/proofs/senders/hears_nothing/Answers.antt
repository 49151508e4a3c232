use Rattle.std.proofs.Common.{Bool, ◌&&◌, ap, sym, ◌∙◌}
use Rattle.entry_causes.proofs.FromBelow.{slot_in-number, slot_in-script}
use Rattle.run_rows.specs.Rows.{run_slot}
use Rattle.ttp_world.specs.Script.{has_receive_fault}
use Rattle.ttp_world.specs.declared.script.Channel.TheVariants as channel
use Rattle.ttp_world.specs.declared.script.Fault.TheVariants as fault
use Rattle.entry_causes.proofs.senders.hears_nothing.Goals as goal

pub returns-then-silent : goal.returns-then-silent
returns-then-silent c =
    let run = c.args.run.now in
    let s = run_slot run c.args.slot in
    let k = c.args.node in
    let scripts = c.script.ensures.value ∙ sym (slot_in-script run.list run.script c.args.slot) in
    let numbers = sym (slot_in-number run.list run.script c.args.slot) in
    let a =
    ap (λ i. i.receive_silence.a) c.incidents.ensures.value
    ∙ (λ i. has_receive_fault (scripts i) fault.Silence k channel.A (numbers i)) in
    let b =
    ap (λ i. i.receive_silence.b) c.incidents.ensures.value
    ∙ (λ i. has_receive_fault (scripts i) fault.Silence k channel.B (numbers i)) in
    b
    ∙ ap (λ (t : Bool). t && has_receive_fault s.begun.script fault.Silence k channel.B s.begun.number)
    (sym (sym a ∙ c.if-silent.true))

pub returns-else-silent : goal.returns-else-silent
returns-else-silent c =
    let run = c.args.run.now in
    let s = run_slot run c.args.slot in
    let k = c.args.node in
    let scripts = c.script.ensures.value ∙ sym (slot_in-script run.list run.script c.args.slot) in
    let numbers = sym (slot_in-number run.list run.script c.args.slot) in
    let a =
    ap (λ i. i.receive_silence.a) c.incidents.ensures.value
    ∙ (λ i. has_receive_fault (scripts i) fault.Silence k channel.A (numbers i)) in
    c.if-silent.false
    ∙ ap (λ (t : Bool). t && has_receive_fault s.begun.script fault.Silence k channel.B s.begun.number)
    (sym (sym a ∙ c.if-silent.false))
