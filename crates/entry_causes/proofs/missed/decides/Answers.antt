use Rattle.std.proofs.Common.{ℕ, List, ap, ◌∙◌}
use Rattle.causes.specs.Missed.{decides_by}
use Rattle.ttp_world.specs.Medium.{Bits}
use Rattle.run_rows.specs.Rows.{run_slot}
use Rattle.entry_causes.proofs.missed.decides.Goals as goal

pub returns-in-Silence : goal.returns-in-Silence
returns-in-Silence c =
    ap (decides_by c.args.node (run_slot c.args.run.now c.args.slot) c.args.verdict) c.in-Silence.ensures.signal

pub returns-in-Noise : goal.returns-in-Noise
returns-in-Noise c =
    ap (decides_by c.args.node (run_slot c.args.run.now c.args.slot) c.args.verdict) c.in-Noise.ensures.signal

pub returns-in-Bits : goal.returns-in-Bits
returns-in-Bits c =
    let s = run_slot c.args.run.now c.args.slot in
    let by = decides_by c.args.node s c.args.verdict in
    c.decides_bits.ensures ∙ ap (λ (bytes : List ℕ). by (Bits c.in-Bits.sender bytes)) c.as_slice.ensures
    ∙ ap by c.in-Bits.ensures.signal
