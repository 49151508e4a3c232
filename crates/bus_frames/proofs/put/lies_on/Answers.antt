use Rattle.std.proofs.Common.{◌∙◌, ap, sym}
use Rattle.std.specs.Prelude.{◌&&◌, not}
use Rattle.ttp_world.specs.declared.script.Fault.TheVariants as fault
use Rattle.ttp_world.specs.Events.{is_among}
use Rattle.ttp_world.specs.Medium.{is_sending}
use Rattle.ttp_world.specs.Script.{has_send_fault}
use Rattle.medium.proofs.Channels.{is_among-where}
use Rattle.bus_frames.proofs.Told.{entry-is}
use Rattle.bus_frames.proofs.put.lies_on.Goals as goal

pub returns-then-is_sending : goal.returns-then-is_sending
returns-then-is_sending c chosen offsets row before stands =
    let script = c.args.script.now in
    let silenced = c.is_among.ensures ∙ ap (λ i. is_among c.args.channel i.send_silence) c.incidents.ensures.value
    ∙ is_among-where (λ ch. has_send_fault script fault.Silence c.args.node ch c.args.slot) c.args.channel in
    let sent = ap is_sending
    (sym (entry-is c.args.plant.now chosen offsets c.args.list.now script c.args.slot row before stands
    c.requires.list c.args.node c.requires.node c.node.result c.node.ensures.shows)) ∙ sym c.is_sending.ensures
    ∙ c.if-is_sending.true in
    ap not silenced
    ∙ ap (λ b. b && not (has_send_fault script fault.Silence c.args.node c.args.channel c.args.slot)) (sym sent)
