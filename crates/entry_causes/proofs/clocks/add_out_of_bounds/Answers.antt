use Rattle.entry_causes.proofs.Adding.{adds-both, on-ok}
use Rattle.entry_causes.proofs.clocks.add_out_of_bounds.Goals as goal

pub returns : goal.returns
returns c =
    on-ok c.add_outside_drift-2.result (λ added.
    adds-both c.args.out.now c.add_error_lines.new.out c.add_outside_drift-2.new.out _ _ c.in_ok-add_error_lines.ensures
    (adds-both c.add_error_lines.new.out c.add_outside_drift.new.out c.add_outside_drift-2.new.out _ _
    c.in_ok-add_outside_drift.ensures added)) c.add_outside_drift-2.ensures
