use Rattle.std.proofs.Common.{◌-◌, ◌||◌, true, false, [], ◌∷◌, ap, sym, ◌∙◌, arith}
use Rattle.causes.specs.Listening.{listening_node}
use Rattle.causes.specs.RunSlots.{is_retried, is_waited}
use Rattle.causes.specs.Sources.{no_sources, only_entries}
use Rattle.entry_causes.proofs.Adding.{adds-none, on-ok}
use Rattle.entry_causes.proofs.Listens.{listening_node-down, listening_node-none}
use Rattle.entry_causes.proofs.Remaining.{adds-same}
use Rattle.run_rows.specs.Rows.{past_slots}
use Rattle.run_rows.specs.declared.row.NodeRow.{NodeRow}
use Rattle.entry_causes.proofs.listening.add_listening_node.Goals as goal

pub returns-then-before-eq0 : goal.returns-then-before-eq0
returns-then-before-eq0 c =
    let run = c.args.run.now in
    adds-same c.args.out.now c.args.out.now no_sources
    (only_entries (listening_node c.args.node (past_slots run c.args.before)))
    (ap only_entries (sym (listening_node-none run.list run.script c.args.before c.args.node c.if-before-eq0.true)))
    (adds-none c.args.out.now)

pub returns-then-is_listening : goal.returns-then-is_listening
returns-then-is_listening c =
    let run = c.args.run.now in
    let q = c.args.node in
    on-ok c.add_entry.result
    (adds-same c.args.out.now c.add_entry.new.self (only_entries (record { slot = c.args.before - 1; node = q } ∷ []))
    (only_entries (listening_node q (past_slots run c.args.before)))
    (ap only_entries
    (sym
    (listening_node-down run.list run.script c.args.before q true (omega (arith, c.if-before-eq0.false))
    (ap (λ (r : NodeRow). is_waited r.entry || is_retried r.entry) (sym c.row.ensures)
    ∙ sym c.is_listening.ensures ∙ c.if-is_listening.true)))))
    c.add_entry.ensures

pub returns : goal.returns
returns c =
    let run = c.args.run.now in
    let q = c.args.node in
    adds-same c.args.out.now c.args.out.now no_sources (only_entries (listening_node q (past_slots run c.args.before)))
    (ap only_entries
    (sym
    (listening_node-down run.list run.script c.args.before q false (omega (arith, c.if-before-eq0.false))
    (ap (λ (r : NodeRow). is_waited r.entry || is_retried r.entry) (sym c.row.ensures)
    ∙ sym c.is_listening.ensures ∙ c.if-is_listening.false))))
    (adds-none c.args.out.now)
