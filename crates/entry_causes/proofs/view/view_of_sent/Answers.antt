use Rattle.std.proofs.Common.{ℕ, List, ap, ◌∙◌}
use Rattle.causes.specs.Missed.{view_of_signal}
use Rattle.run_rows.specs.Rows.{run_slot}
use Rattle.ttp_world.specs.Medium.{Bits}
use Rattle.entry_causes.proofs.view.view_of_sent.Goals as goal

pub returns : goal.returns
returns c =
    c.view_of_bytes.ensures
    ∙ ap (λ (bytes : List ℕ).
    view_of_signal c.args.node (run_slot c.args.run.now c.args.slot) (Bits c.args.sender bytes))
    (c.as_slice.ensures ∙ c.frame_sent-sent.ensures)
