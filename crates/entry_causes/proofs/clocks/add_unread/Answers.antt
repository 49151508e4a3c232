use Rattle.std.proofs.Common.{◌≡◌, ◌-◌, List, ap, length, subst, sym, take, ◌∙◌, arith, ℕ}
use Rattle.std.specs.Prelude.{OnOk}
use Rattle.causes.specs.Sources.{only_entries}
use Rattle.causes.specs.declared.cause.Spot.{Spot}
use Rattle.entry_causes.proofs.Adding.{adds-none}
use Rattle.entry_causes.proofs.Unread.{unread-averaged, unread-early, unread-here}
use Rattle.entry_causes.specs.Notes.{unread_in}
use Rattle.run_looks.specs.Added.{AddsSources}
use Rattle.entry_causes.proofs.FromBelow.{length-past_slots_in}
use Rattle.run_rows.specs.Rows.{past_slots}
use Rattle.run_rows.specs.declared.row.NodeRow.{NodeRow}
use Rattle.entry_causes.proofs.clocks.add_unread.Goals as goal

pub returns-then-slot-back : goal.returns-then-slot-back
returns-then-slot-back c =
    let run = c.args.run.now in
    let stint =
    ap length c.back_to-stint.ensures.is ∙ length-past_slots_in run.list run.script c.back_to-stint.result in
    let back = c.from-back.ensures ∙ c.place_slot.ensures.value in
    subst (λ (spots : List Spot). AddsSources c.args.out.now c.args.out.now (only_entries spots))
    (sym (unread-early run.list run.script c.args.slot c.args.node c.back_to-stint.result c.from-back.result stint back
    c.if-slot-back.true))
    (adds-none c.args.out.now)

pub returns-then-averaged : goal.returns-then-averaged
returns-then-averaged c =
    let run = c.args.run.now in
    let stint =
    ap length c.back_to-stint.ensures.is ∙ length-past_slots_in run.list run.script c.back_to-stint.result in
    let back = c.from-back.ensures ∙ c.place_slot.ensures.value in
    subst (λ (spots : List Spot). AddsSources c.args.out.now c.args.out.now (only_entries spots))
    (sym (unread-averaged run.list run.script c.args.slot c.args.node c.back_to-stint.result c.from-back.result
    c.row.result.now.begun.has_averaged stint back c.if-slot-back.false
    (ap (λ (r : NodeRow). r.begun.has_averaged) c.row.ensures) c.if-averaged.true))
    (adds-none c.args.out.now)

pub returns : goal.returns
returns c =
    let run = c.args.run.now in
    let stint =
    ap length c.back_to-stint.ensures.is ∙ length-past_slots_in run.list run.script c.back_to-stint.result in
    let back = c.from-back.ensures ∙ c.place_slot.ensures.value in
    let first = c.args.slot - c.from-back.result in
    let from : first - c.saturating_sub-from.result ≡ first - (first - length run.list.slots) =
    omega (arith, c.saturating_sub-from.ensures, c.from.ensures, c.nodes.ensures) in
    subst (λ (spots : List Spot).
    OnOk c.add_unread_in.result (AddsSources c.args.out.now c.add_unread_in.new.out (only_entries spots)))
    (ap (λ (n : ℕ). unread_in run.list c.args.node c.back_to-stint.result (take n (past_slots run first))) from
    ∙ sym (unread-here run.list run.script c.args.slot c.args.node c.back_to-stint.result c.from-back.result
    c.row.result.now.begun.has_averaged stint back c.if-slot-back.false
    (ap (λ (r : NodeRow). r.begun.has_averaged) c.row.ensures) c.if-averaged.false))
    c.add_unread_in.ensures
