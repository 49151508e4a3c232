use Rattle.std.proofs.Common.{◌<◌, ◌||◌, ap, subst, sym, ◌∙◌, arith}
use Rattle.std.specs.Prelude.{OnOk}
use Rattle.causes.specs.RunSlots.{is_gone_entry, is_left, is_retried}
use Rattle.causes.specs.Sources as causes
use Rattle.entry_causes.proofs.Adding.{adds-none}
use Rattle.entry_causes.proofs.ListensBy.{listens-none, listens-other, listens-out, listens-retried}
use Rattle.run_looks.specs.Added.{AddsSources}
use Rattle.run_rows.specs.declared.row.NodeRow.{NodeRow}
use Rattle.entry_causes.proofs.listening.add_listening.Goals as goal

pub returns-then-from-eq0 : goal.returns-then-from-eq0
returns-then-from-eq0 c =
    let run = c.args.run.now in
    subst (λ (sources : causes.Sources). AddsSources c.args.out.now c.args.out.now sources)
    (sym (listens-none run.list run.script c.args.node c.args.before c.listening_from-from.result
    c.listening_from-from.ensures.is c.if-from-eq0.true))
    (adds-none c.args.out.now)

pub returns-then-is_retried : goal.returns-then-is_retried
returns-then-is_retried c =
    let run = c.args.run.now in
    let some : 0 < c.listening_from-from.result = omega (arith, c.if-from-eq0.false) in
    subst (λ (sources : causes.Sources).
    OnOk c.add_entry.result (AddsSources c.args.out.now c.add_entry.new.self sources))
    (sym (listens-retried run.list run.script c.args.node c.args.before c.listening_from-from.result
    c.listening_from-from.ensures.is some
    (ap (λ (r : NodeRow). is_retried r.entry) (sym c.row.ensures) ∙ sym c.is_retried.ensures ∙ c.if-is_retried.true)))
    c.add_entry.ensures

pub returns-then-is_out : goal.returns-then-is_out
returns-then-is_out c =
    let run = c.args.run.now in
    let some : 0 < c.listening_from-from.result = omega (arith, c.if-from-eq0.false) in
    subst (λ (sources : causes.Sources).
    OnOk c.add_left_and_armed.result (AddsSources c.args.out.now c.add_left_and_armed.new.out sources))
    (sym (listens-out run.list run.script c.args.node c.args.before c.listening_from-from.result
    c.listening_from-from.ensures.is some
    (ap (λ (r : NodeRow). is_left r.entry || is_gone_entry r.entry) (sym c.row.ensures) ∙ sym c.is_out.ensures
    ∙ c.if-is_out.true)))
    c.add_left_and_armed.ensures

pub returns : goal.returns
returns c =
    let run = c.args.run.now in
    let some : 0 < c.listening_from-from.result = omega (arith, c.if-from-eq0.false) in
    subst (λ (sources : causes.Sources). AddsSources c.args.out.now c.args.out.now sources)
    (sym (listens-other run.list run.script c.args.node c.args.before c.listening_from-from.result
    c.listening_from-from.ensures.is some
    (ap (λ (r : NodeRow). is_retried r.entry) (sym c.row.ensures) ∙ sym c.is_retried.ensures ∙ c.if-is_retried.false)
    (ap (λ (r : NodeRow). is_left r.entry || is_gone_entry r.entry) (sym c.row.ensures) ∙ sym c.is_out.ensures
    ∙ c.if-is_out.false)))
    (adds-none c.args.out.now)
