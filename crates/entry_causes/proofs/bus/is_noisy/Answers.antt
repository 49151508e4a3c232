use Rattle.std.proofs.Common.{ap, sym, ◌∙◌}
use Rattle.entry_causes.proofs.FromBelow.{is_among-where, slot_in-number, slot_in-script}
use Rattle.ttp_world.specs.Events.{is_among}
use Rattle.ttp_world.specs.Script.{has_receive_fault}
use Rattle.ttp_world.specs.declared.events.Incidents.{Incidents}
use Rattle.ttp_world.specs.declared.script.Fault.TheVariants as fault
use Rattle.entry_causes.proofs.bus.is_noisy.Goals as goal

pub returns : goal.returns
returns c =
    let run = c.args.run.now in
    let ch = c.args.channel in
    let scripts = c.script.ensures.value ∙ sym (slot_in-script run.list run.script c.args.slot) in
    let numbers = sym (slot_in-number run.list run.script c.args.slot) in
    c.is_among.ensures ∙ ap (λ (i : Incidents). is_among ch i.receive_noise) c.incidents.ensures.value
    ∙ is_among-where (λ other. has_receive_fault c.script.result.now fault.Noise c.args.node other c.args.slot) ch
    ∙ (λ i. has_receive_fault (scripts i) fault.Noise c.args.node ch (numbers i))
