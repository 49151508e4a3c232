use Rattle.std.proofs.Common.{ap, ◌∙◌}
use Rattle.causes.specs.Missed.{view_of_signal}
use Rattle.run_rows.specs.Rows.{run_slot}
use Rattle.entry_causes.proofs.view.view_on.Goals as goal

pub returns : goal.returns
returns c =
    c.view_of.ensures
    ∙ ap (view_of_signal c.args.node (run_slot c.args.run.now c.args.slot)) c.heard_in.ensures.signal
