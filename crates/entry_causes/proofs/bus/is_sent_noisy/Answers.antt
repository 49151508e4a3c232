use Rattle.std.proofs.Common.{ap, ◌∙◌}
use Rattle.entry_causes.proofs.FromBelow.{is_among-where}
use Rattle.ttp_world.specs.Events.{is_among}
use Rattle.ttp_world.specs.Script.{has_send_fault}
use Rattle.ttp_world.specs.declared.events.Incidents.{Incidents}
use Rattle.ttp_world.specs.declared.script.Fault.TheVariants as fault
use Rattle.ttp_world.specs.declared.script.Script.{Script}
use Rattle.entry_causes.proofs.bus.is_sent_noisy.Goals as goal

pub returns : goal.returns
returns c =
    let ch = c.args.channel in
    c.is_among.ensures ∙ ap (λ (i : Incidents). is_among ch i.send_noise) c.incidents.ensures.value
    ∙ is_among-where (λ other. has_send_fault c.script.result.now fault.Noise c.args.sender other c.args.slot) ch
    ∙ ap (λ (script : Script). has_send_fault script fault.Noise c.args.sender ch c.args.slot) c.script.ensures.value
