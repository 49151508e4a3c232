use Rattle.std.proofs.Common.{ap, ◌∙◌}
use Rattle.ttp_world.specs.declared.script.Fault.TheVariants as fault
use Rattle.ttp_world.specs.Events.{is_among}
use Rattle.ttp_world.specs.Script.{has_receive_fault, incidents_of}
use Rattle.medium.proofs.Channels.{Shows-heard, is_among-where}
use Rattle.medium.proofs.arrival.received.Goals as goal

pub returns-clause-heard : goal.returns-clause-heard
returns-clause-heard c carried script node of_node shows slot frames clock stands =
    let there = c.args.channel in
    let told = of_node ∙ ap (incidents_of script node) stands.slot in
    Shows-heard script slot node there frames clock _ _ _ _
    (c.is_among-silenced.ensures ∙ ap (λ i. is_among there i.receive_silence) told
    ∙ is_among-where (λ d. has_receive_fault script fault.Silence node d slot) there)
    (c.is_among-noisy.ensures ∙ ap (λ i. is_among there i.receive_noise) told
    ∙ is_among-where (λ d. has_receive_fault script fault.Noise node d slot) there)
    c.through.ensures.shows (shows script slot frames clock stands)
