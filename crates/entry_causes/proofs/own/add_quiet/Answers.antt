use Rattle.std.proofs.Common.{◌+◌, Bool, [], cond, nat_lt, ap, sym, ◌∙◌}
use Rattle.causes.specs.OwnSlots.{quiet_entries}
use Rattle.causes.specs.RunSlots.{is_quiet, judged_since_own}
use Rattle.causes.specs.Sources.{no_sources, only_entries}
use Rattle.entry_causes.proofs.Adding.{adds-none, on-ok}
use Rattle.entry_causes.proofs.Remaining.{adds-same}
use Rattle.run_rows.specs.Rows.{past_slots, run_slot}
use Rattle.entry_causes.proofs.own.add_quiet.Goals as goal

pub returns-then-is_exceeded : goal.returns-then-is_exceeded
returns-then-is_exceeded c =
    let run = c.args.run.now in
    let k = c.args.node in
    let s = run_slot run c.args.slot in
    let before = past_slots run c.args.slot in
    let quiet = judged_since_own is_quiet k before in
    let exceeded =
    (λ i. nat_lt (sym c.row.ensures i).begun.rejected
    ((sym c.row.ensures i).begun.accepted + sym c.count_judged_since_own-quiet.ensures i))
    ∙ sym c.is_exceeded.ensures ∙ c.if-is_exceeded.true in
    on-ok c.add_judged_since_own.result
    (adds-same c.args.out.now c.add_judged_since_own.new.out (only_entries quiet)
    (only_entries (quiet_entries k s before)) (ap (λ (b : Bool). only_entries (cond b quiet [])) (sym exceeded)))
    c.add_judged_since_own.ensures

pub returns : goal.returns
returns c =
    let run = c.args.run.now in
    let k = c.args.node in
    let s = run_slot run c.args.slot in
    let before = past_slots run c.args.slot in
    let quiet = judged_since_own is_quiet k before in
    let exceeded =
    (λ i. nat_lt (sym c.row.ensures i).begun.rejected
    ((sym c.row.ensures i).begun.accepted + sym c.count_judged_since_own-quiet.ensures i))
    ∙ sym c.is_exceeded.ensures ∙ c.if-is_exceeded.false in
    adds-same c.args.out.now c.args.out.now no_sources (only_entries (quiet_entries k s before))
    (ap (λ (b : Bool). only_entries (cond b quiet [])) (sym exceeded)) (adds-none c.args.out.now)
