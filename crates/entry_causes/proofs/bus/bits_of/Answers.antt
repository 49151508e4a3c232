use Rattle.std.proofs.Common.{ap, ◌∙◌}
use Rattle.ttp_world.specs.Medium.{Bits, flip_bits}
use Rattle.ttp_world.specs.Script.{flipped_bits}
use Rattle.ttp_world.specs.declared.script.Script.{Script}
use Rattle.entry_causes.proofs.bus.bits_of.Goals as goal

pub returns-clause-signal : goal.returns-clause-signal
returns-clause-signal c =
    let ch = c.args.channel in
    let flips =
    c.flips.ensures ch ∙ ap (λ (script : Script). flipped_bits script c.args.sender ch c.args.slot)
    c.script.ensures.value in
    ap (Bits c.args.sender) (c.flip_frame.ensures ∙ (λ i. flip_bits (c.frame_sent-frame.ensures i) (flips i)))
