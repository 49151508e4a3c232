use Rattle.std.proofs.Common.{ℕ, List, ap, ◌∙◌}
use Rattle.causes.specs.LinesOf.{noisy_in, silencing_in}
use Rattle.causes.specs.Missed.{bits_reason, channel_reason, noise_reason, reason_of_signal}
use Rattle.causes.specs.Sources.{by_lines}
use Rattle.causes.specs.declared.cause.Miss.TheVariants as miss
use Rattle.entry_causes.proofs.Reasons.{tells-same}
use Rattle.ttp_world.specs.Medium.{Bits}
use Rattle.run_rows.specs.Rows.{past_slots, run_slot}
use Rattle.entry_causes.proofs.missed.add_channel_reason.Goals as goal

pub returns-in-Silence : goal.returns-in-Silence
returns-in-Silence c =
    let s = run_slot c.args.run.now c.args.slot in
    let before = past_slots c.args.run.now c.args.slot in
    let k = c.args.node in
    let ch = c.args.channel in
    tells-same c.add_silence_reason.result c.args.out.now c.add_silence_reason.new.out
    (by_lines miss.Silenced (silencing_in k s ch)) (channel_reason k s before ch)
    (ap (reason_of_signal k s before ch) c.in-Silence.ensures.signal) c.add_silence_reason.ensures

pub returns-in-Noise : goal.returns-in-Noise
returns-in-Noise c =
    let s = run_slot c.args.run.now c.args.slot in
    let before = past_slots c.args.run.now c.args.slot in
    let k = c.args.node in
    let ch = c.args.channel in
    tells-same c.add_noise_reason.result c.args.out.now c.add_noise_reason.new.out
    (noise_reason s ch (noisy_in k s ch)) (channel_reason k s before ch)
    (ap (reason_of_signal k s before ch) c.in-Noise.ensures.signal) c.add_noise_reason.ensures

pub add_bits_reason-requires-clause-sender : goal.add_bits_reason-requires-clause-sender
add_bits_reason-requires-clause-sender c = c.in-Bits.ensures.sender.0

pub add_bits_reason-requires-clause-sends : goal.add_bits_reason-requires-clause-sends
add_bits_reason-requires-clause-sends c = c.in-Bits.ensures.sender.1

pub returns-in-Bits : goal.returns-in-Bits
returns-in-Bits c =
    let s = run_slot c.args.run.now c.args.slot in
    let before = past_slots c.args.run.now c.args.slot in
    let k = c.args.node in
    let ch = c.args.channel in
    let p = c.in-Bits.sender in
    tells-same c.add_bits_reason.result c.args.out.now c.add_bits_reason.new.out
    (bits_reason k s before ch p (Bits p c.as_slice.result.now)) (channel_reason k s before ch)
    (ap (λ (bytes : List ℕ). bits_reason k s before ch p (Bits p bytes)) c.as_slice.ensures
    ∙ ap (reason_of_signal k s before ch) c.in-Bits.ensures.signal) c.add_bits_reason.ensures
