use Rattle.std.proofs.Common.{◌∙◌}
use Rattle.causes.specs.Judged.{against_sources, second_channel}
use Rattle.causes.specs.LinesOf.{heard_in}
use Rattle.causes.specs.RunSlots.{is_miss, judged_since_own}
use Rattle.causes.specs.Sources.{cause_by, only_entries, with_sources}
use Rattle.causes.specs.declared.cause.Because.TheVariants as because
use Rattle.entry_causes.proofs.Adding.{adds-both}
use Rattle.entry_causes.proofs.Remaining.{caused}
use Rattle.run_rows.specs.Rows.{past_slots, run_slot}
use Rattle.entry_causes.proofs.judged.tentative_cause.Goals as goal

pub returns : goal.returns
returns c =
    let run = c.args.run.now in
    let k = c.args.node in
    let s = run_slot run c.args.slot in
    let before = past_slots run c.args.slot in
    let signal = heard_in k s (second_channel k s) in
    let against = c.in_ok-sender.ensures in
    let all = with_sources (against_sources k s before signal) (only_entries (judged_since_own is_miss k before)) in
    c.cause_by.ensures
    ∙ caused c.none-out.result c.add_judged_since_own.new.out _ all c.none-out.ensures
    (adds-both c.none-out.result c.add_against.new.out
    c.add_judged_since_own.new.out (against_sources k s before signal)
    (only_entries (judged_since_own is_miss k before)) against.1 c.in_ok-add_judged_since_own.ensures)
    ∙ (λ i. cause_by (because.HoldsNot (against.0 i) k) all)
