use Rattle.std.proofs.Common.{◌++◌, ap, subst, ◌∙◌}
use Rattle.causes.specs.Clocks.{jumps_borne}
use Rattle.causes.specs.RunSlots.{RunSlots}
use Rattle.causes.specs.Sources.{only_lines}
use Rattle.entry_causes.proofs.Adding.{adds-both, on-ok}
use Rattle.run_looks.specs.Added.{AddsSources}
use Rattle.entry_causes.proofs.FromBelow.{past_slots_in-next}
use Rattle.run_rows.specs.Rows.{past_slots_in}
use Rattle.entry_causes.proofs.clocks.add_jumps.Goals as goal

pub returns : goal.returns
returns c =
    let run = c.args.run.now in
    let next =
    ap (past_slots_in run.list run.script) c.slot_behind-slots.ensures.value
    ∙ past_slots_in-next run.list run.script c.args.slot in
    on-ok c.add_jumps_borne-2.result (λ added.
    subst (λ (slots : RunSlots). AddsSources c.args.out.now c.add_jumps_borne-2.new.out
    (only_lines (jumps_borne c.args.sender slots ++ jumps_borne c.args.node slots))) next
    (adds-both c.args.out.now c.add_jumps_borne.new.out c.add_jumps_borne-2.new.out _ _ c.in_ok-add_jumps_borne.ensures
    added)) c.add_jumps_borne-2.ensures
