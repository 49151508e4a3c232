use Rattle.std.proofs.Common.{◌∙◌}
use Rattle.causes.specs.Judged.{against_sources, doubt_entries, second_channel}
use Rattle.causes.specs.LinesOf.{heard_in}
use Rattle.causes.specs.Sources.{cause_by, only_entries, with_sources}
use Rattle.causes.specs.declared.cause.Because.TheVariants as because
use Rattle.entry_causes.proofs.Adding.{adds-both}
use Rattle.entry_causes.proofs.Remaining.{caused}
use Rattle.run_rows.specs.Rows.{past_slots, run_slot}
use Rattle.entry_causes.proofs.judged.denied_cause.Goals as goal

pub returns : goal.returns
returns c =
    let run = c.args.run.now in
    let k = c.args.node in
    let s = run_slot run c.args.slot in
    let before = past_slots run c.args.slot in
    let signal = heard_in k s (second_channel k s) in
    let against = c.in_ok-sender.ensures in
    let all = with_sources (against_sources k s before signal) (only_entries (doubt_entries k before)) in
    c.cause_by.ensures
    ∙ caused c.none-out.result c.add_doubt_entries.new.out _ all c.none-out.ensures
    (adds-both c.none-out.result c.add_against.new.out c.add_doubt_entries.new.out (against_sources k s before signal)
    (only_entries (doubt_entries k before)) against.1 c.in_ok-add_doubt_entries.ensures)
    ∙ (λ i. cause_by (because.HoldsOne (against.0 i) (c.doubted_or_itself.ensures i) k) all)
