use Rattle.std.proofs.Common.{Bool, ◌&&◌, ap, sym, ◌∙◌}
use Rattle.causes.specs.LinesOf.{bytes_sent}
use Rattle.causes.specs.Missed.{is_seen_as, view_of_signal}
use Rattle.run_rows.specs.Rows.{run_slot}
use Rattle.ttp_world.specs.Medium.{Bits}
use Rattle.entry_causes.proofs.missed.decides_bits.Goals as goal

pub returns-then-not-is_seen_as : goal.returns-then-not-is_seen_as
returns-then-not-is_seen_as c =
    let s = run_slot c.args.run.now c.args.slot in
    let p = c.args.sender in
    let as_sent = is_seen_as c.args.verdict (view_of_signal c.args.node s (Bits p (bytes_sent s.frames p))) in
    sym
    (ap (λ (b : Bool). b && as_sent)
    (ap (is_seen_as c.args.verdict) (sym c.view_of_bytes.ensures)
    ∙ sym c.is_seen_as.ensures ∙ c.if-not-is_seen_as.true))

pub returns : goal.returns
returns c =
    let s = run_slot c.args.run.now c.args.slot in
    let p = c.args.sender in
    let as_sent = is_seen_as c.args.verdict (view_of_signal c.args.node s (Bits p (bytes_sent s.frames p))) in
    c.is_seen_as-2.ensures ∙ ap (is_seen_as c.args.verdict) c.view_of_sent.ensures
    ∙ sym
    (ap (λ (b : Bool). b && as_sent)
    (ap (is_seen_as c.args.verdict) (sym c.view_of_bytes.ensures)
    ∙ sym c.is_seen_as.ensures ∙ c.if-not-is_seen_as.false))
