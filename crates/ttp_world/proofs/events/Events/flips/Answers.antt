use Rattle.ttp_world.proofs.Words.{◌<◌, ap, ◌∙◌, arith, NODE_KEYS, flipped_bit, bits_on, keyed_flip, values_of}
use Rattle.std.specs.List.{filter_map}
use Rattle.ttp_world.proofs.FlipLists.{flips_told}
use Rattle.ttp_world.proofs.events.Events.flips.Goals as goal

pub returns : goal.returns
returns c = λ channel.
    let k = c.args.node in
    let slot = c.args.slot in
    let events = c.self.inside.items in
    let flips = filter_map keyed_flip events in
    let in_node : slot < NODE_KEYS = omega arith in
    ap (bits_on channel)
    (c.at.ensures flips c.self.invariant.1.flips ∙ ap (λ key. values_of key flips) c.key_of.ensures)
    ∙ flips_told channel k slot events in_node c.self.invariant.1.flip_slots
    ∙ ap (filter_map (flipped_bit k channel slot)) c.self.view_is
