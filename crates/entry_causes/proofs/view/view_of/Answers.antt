use Rattle.std.proofs.Common.{ℕ, List, ap, subst, sym, ◌∙◌}
use Rattle.causes.specs.Missed.{view_of_signal}
use Rattle.entry_causes.specs.Hearing.{IsHeardInSlot, signal_heard}
use Rattle.entry_causes.specs.declared.bus.Heard.{Heard}
use Rattle.run_rows.specs.Rows.{run_slot}
use Rattle.ttp_world.specs.Medium.{Bits}
use Rattle.entry_causes.proofs.view.view_of.Goals as goal

pub returns-in-Silence : goal.returns-in-Silence
returns-in-Silence c =
    ap (λ (h : Heard). view_of_signal c.args.node
    (run_slot c.args.run.now c.args.slot) (signal_heard h)) (sym c.in-Silence.is)

pub returns-in-Noise : goal.returns-in-Noise
returns-in-Noise c =
    ap (λ (h : Heard). view_of_signal c.args.node
    (run_slot c.args.run.now c.args.slot) (signal_heard h)) (sym c.in-Noise.is)

pub view_of_bytes-requires-clause-sender : goal.view_of_bytes-requires-clause-sender
view_of_bytes-requires-clause-sender c =
    let run = c.args.run.now in
    (subst (λ (h : Heard). IsHeardInSlot run.list (run_slot run c.args.slot) h) c.in-Bits.is c.requires.heard).0

pub returns-in-Bits : goal.returns-in-Bits
returns-in-Bits c =
    let s = run_slot c.args.run.now c.args.slot in
    c.view_of_bytes.ensures
    ∙ ap (λ (bytes : List ℕ). view_of_signal c.args.node s (Bits c.in-Bits.sender bytes)) c.as_slice.ensures
    ∙ ap (λ (h : Heard). view_of_signal c.args.node s (signal_heard h)) (sym c.in-Bits.is)
