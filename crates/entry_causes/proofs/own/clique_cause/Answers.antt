use Rattle.std.proofs.Common.{◌∙◌}
use Rattle.causes.specs.OwnSlots.{answer_of, quiet_entries, settled_doubts, shared_by}
use Rattle.causes.specs.RunSlots.{is_rejected, judged_since_own}
use Rattle.causes.specs.Sources.{cause_by, only_entries, with_sources}
use Rattle.causes.specs.declared.cause.Because.TheVariants as because
use Rattle.entry_causes.proofs.Adding.{adds-both}
use Rattle.entry_causes.proofs.Remaining.{caused}
use Rattle.run_rows.specs.Rows.{past_slots, run_slot}
use Rattle.entry_causes.proofs.own.clique_cause.Goals as goal

pub returns : goal.returns
returns c =
    let run = c.args.run.now in
    let k = c.args.node in
    let s = run_slot run c.args.slot in
    let before = past_slots run c.args.slot in
    let answer = c.in_ok-peer.ensures in
    let rejected = only_entries (judged_since_own is_rejected k before) in
    let settled = only_entries (settled_doubts k before) in
    let quiet = only_entries (quiet_entries k s before) in
    let shared = only_entries (shared_by k before (answer_of k before)).entries in
    let all = with_sources rejected (with_sources settled (with_sources quiet shared)) in
    c.cause_by.ensures
    ∙ caused c.none-out.result c.add_answer.new.out _ all c.none-out.ensures
    (adds-both c.none-out.result c.add_judged_since_own.new.out c.add_answer.new.out rejected
    (with_sources settled (with_sources quiet shared)) c.in_ok-add_judged_since_own.ensures
    (adds-both c.add_judged_since_own.new.out c.add_settled_doubts.new.out c.add_answer.new.out settled
    (with_sources quiet shared) c.in_ok-add_settled_doubts.ensures
    (adds-both c.add_settled_doubts.new.out c.add_quiet.new.out
    c.add_answer.new.out quiet shared c.in_ok-add_quiet.ensures
    answer.adds)))
    ∙ (λ i. cause_by
    (because.Outvoted (c.row.ensures i).begun.accepted (c.row.ensures i).begun.rejected (c.own_slot.ensures i)
    (answer.peer i) (answer.lacked i)) all)
