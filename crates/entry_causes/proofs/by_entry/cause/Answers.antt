use Rattle.std.proofs.Common.{◌≡◌, ℕ, ◌+◌, ap, subst, sym, ◌∙◌}
use Rattle.std.specs.Prelude.{IfOk}
use Rattle.causes.specs.Causes.{entry_cause, newest_cause}
use Rattle.causes.specs.Listening as listening
use Rattle.causes.specs.Sources as causes
use Rattle.causes.specs.Sources.{cause_by}
use Rattle.causes.specs.declared.cause.Because.TheVariants as because
use Rattle.causes.specs.declared.cause.Cause.{Cause}
use Rattle.entry_causes.proofs.FromBelow.{past_slots_in-next, slot_in-script}
use Rattle.run_rows.specs.Rows.{node_row, past_slots_in, slot_in}
use Rattle.run_rows.specs.declared.row.NodeRow.{NodeRow}
use Rattle.ttp_world.specs.Script.{on_slot}
use Rattle.ttp_world.specs.declared.medl.Medl.{Medl}
use Rattle.ttp_world.specs.declared.node.Entry.{Entry}
use Rattle.ttp_world.specs.declared.script.Script.{Script}
use Rattle.entry_causes.proofs.by_entry.cause.Goals as goal

-- by what the row of the slot says
by-row : (list : Medl) (script : Script) (slot k : ℕ) (row : NodeRow) (e : Entry)
    → row ≡ node_row k (slot_in list script slot)
    → row.entry ≡ e
    → newest_cause k (past_slots_in list script (slot + 1))
    ≡ entry_cause k (slot_in list script slot) (past_slots_in list script slot) e
by-row list script slot k row e is here =
    ap (newest_cause k) (past_slots_in-next list script slot)
    ∙ ap (entry_cause k (slot_in list script slot) (past_slots_in list script slot))
    (ap (λ (r : NodeRow). r.entry) (sym is) ∙ here)

pub returns-in-Waited : goal.returns-in-Waited
returns-in-Waited c =
    let run = c.args.run.now in
    subst (λ (told : Cause). IfOk c.wait_cause.result (λ cause. cause ≡ told))
    (sym (by-row run.list run.script c.args.slot c.args.node c.row.result.now _ c.row.ensures c.in-Waited.is))
    c.wait_cause.ensures

pub returns-in-Retried : goal.returns-in-Retried
returns-in-Retried c =
    let run = c.args.run.now in
    subst (λ (told : Cause). IfOk c.retry_cause.result (λ cause. cause ≡ told))
    (sym (by-row run.list run.script c.args.slot c.args.node c.row.result.now _ c.row.ensures c.in-Retried.is))
    c.retry_cause.ensures

pub returns-in-Gone : goal.returns-in-Gone
returns-in-Gone c =
    let run = c.args.run.now in
    subst (λ (told : Cause). IfOk c.gone_cause.result (λ cause. cause ≡ told))
    (sym (by-row run.list run.script c.args.slot c.args.node c.row.result.now _ c.row.ensures c.in-Gone.is))
    c.gone_cause.ensures

pub returns-in-Started : goal.returns-in-Started
returns-in-Started c =
    let run = c.args.run.now in
    subst (λ (told : Cause). IfOk c.start_cause.result (λ cause. cause ≡ told))
    (sym (by-row run.list run.script c.args.slot c.args.node c.row.result.now _ c.row.ensures c.in-Started.is))
    c.start_cause.ensures

pub returns-in-Joined : goal.returns-in-Joined
returns-in-Joined c =
    let run = c.args.run.now in
    subst (λ (told : Cause). IfOk c.join_cause.result (λ cause. cause ≡ told))
    (sym (by-row run.list run.script c.args.slot c.args.node c.row.result.now _ c.row.ensures c.in-Joined.is))
    c.join_cause.ensures

pub returns-in-Judged : goal.returns-in-Judged
returns-in-Judged c =
    let run = c.args.run.now in
    subst (λ (told : Cause). IfOk c.judged_cause.result (λ cause. cause ≡ told))
    (sym (by-row run.list run.script c.args.slot c.args.node c.row.result.now _ c.row.ensures c.in-Judged.is))
    c.judged_cause.ensures

pub returns-in-Left : goal.returns-in-Left
returns-in-Left c =
    let run = c.args.run.now in
    subst (λ (told : Cause). IfOk c.left_cause.result (λ cause. cause ≡ told))
    (sym (by-row run.list run.script c.args.slot c.args.node c.row.result.now _ c.row.ensures c.in-Left.is))
    c.left_cause.ensures

pub returns-in-Off : goal.returns-in-Off
returns-in-Off c =
    let run = c.args.run.now in
    subst (λ (told : Cause). IfOk c.off_cause.result (λ cause. cause ≡ told))
    (ap (λ (script : Script). listening.off_cause c.args.node (on_slot script c.args.node))
    (sym (slot_in-script run.list run.script c.args.slot))
    ∙ sym (by-row run.list run.script c.args.slot c.args.node c.row.result.now _ c.row.ensures c.in-Off.is))
    c.off_cause.ensures

pub returns-in-Sent : goal.returns-in-Sent
returns-in-Sent c =
    let run = c.args.run.now in
    c.cause_by.ensures
    ∙ ap (λ (sources : causes.Sources). cause_by because.OwnSlot sources) c.none.ensures
    ∙ sym (by-row run.list run.script c.args.slot c.args.node c.row.result.now _ c.row.ensures c.in-Sent.is)
