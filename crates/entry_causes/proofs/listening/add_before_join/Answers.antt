use Rattle.std.proofs.Common.{sym, ap, ◌∙◌, arith}
use Rattle.causes.specs.Listening.{listening_sources, sources_before_join, wait_sources}
use Rattle.causes.specs.RunSlots.{is_waited}
use Rattle.causes.specs.Sources.{no_sources}
use Rattle.entry_causes.proofs.Adding.{adds-none, on-ok}
use Rattle.entry_causes.proofs.Listens.{before_join-none, before_join-other, before_join-waited}
use Rattle.entry_causes.proofs.Remaining.{adds-same}
use Rattle.run_rows.specs.Rows.{past_slots}
use Rattle.run_rows.specs.declared.row.NodeRow.{NodeRow}
use Rattle.entry_causes.proofs.listening.add_before_join.Goals as goal

pub returns-then-before-eq0 : goal.returns-then-before-eq0
returns-then-before-eq0 c =
    let run = c.args.run.now in
    adds-same c.args.out.now c.args.out.now no_sources (sources_before_join c.args.node (past_slots run c.args.before))
    (sym (before_join-none run.list run.script c.args.before c.args.node c.if-before-eq0.true))
    (adds-none c.args.out.now)

pub returns-then-is_waited : goal.returns-then-is_waited
returns-then-is_waited c =
    let run = c.args.run.now in
    let k = c.args.node in
    on-ok c.add_wait_before.result
    (adds-same c.args.out.now c.add_wait_before.new.out (wait_sources k (past_slots run c.args.before))
    (sources_before_join k (past_slots run c.args.before))
    (sym
    (before_join-waited run.list run.script c.args.before k (omega (arith, c.if-before-eq0.false))
    (ap (λ (r : NodeRow). is_waited r.entry) (sym c.row.ensures) ∙ sym c.is_waited.ensures ∙ c.if-is_waited.true))))
    c.add_wait_before.ensures

pub returns : goal.returns
returns c =
    let run = c.args.run.now in
    let k = c.args.node in
    on-ok c.add_listening.result
    (adds-same c.args.out.now c.add_listening.new.out (listening_sources k (past_slots run c.args.before))
    (sources_before_join k (past_slots run c.args.before))
    (sym
    (before_join-other run.list run.script c.args.before k (omega (arith, c.if-before-eq0.false))
    (ap (λ (r : NodeRow). is_waited r.entry) (sym c.row.ensures) ∙ sym c.is_waited.ensures ∙ c.if-is_waited.false))))
    c.add_listening.ensures
