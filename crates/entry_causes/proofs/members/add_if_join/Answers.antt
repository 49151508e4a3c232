use Rattle.std.proofs.Common.{Bool, [], ◌∷◌, ap, sym, ◌∙◌, arith}
use Rattle.causes.specs.Members.{if_join}
use Rattle.causes.specs.RunSlots.{is_joined}
use Rattle.causes.specs.Sources.{no_sources, only_entries}
use Rattle.entry_causes.proofs.Adding.{adds-none, on-ok}
use Rattle.entry_causes.proofs.Remaining.{adds-same}
use Rattle.entry_causes.proofs.SaidSlots.{if_join-before, if_join-none, if_joined}
use Rattle.run_rows.specs.Rows.{past_slots}
use Rattle.run_rows.specs.declared.row.NodeRow.{NodeRow}
use Rattle.entry_causes.proofs.members.add_if_join.Goals as goal

pub returns-then-before-eq0 : goal.returns-then-before-eq0
returns-then-before-eq0 c =
    let run = c.args.run.now in
    adds-same c.args.out.now c.args.out.now no_sources
    (only_entries (if_join (past_slots run c.args.before) c.args.spot))
    (ap only_entries (sym (if_join-none run.list run.script c.args.before c.args.spot c.if-before-eq0.true)))
    (adds-none c.args.out.now)

pub returns-then-is_joined : goal.returns-then-is_joined
returns-then-is_joined c =
    let run = c.args.run.now in
    let spot = c.args.spot in
    on-ok c.add_entry.result
    (adds-same c.args.out.now c.add_entry.new.self (only_entries (spot ∷ []))
    (only_entries (if_join (past_slots run c.args.before) spot))
    (ap only_entries
    (sym
    (if_join-before run.list run.script c.args.before spot (omega (arith, c.if-before-eq0.false, c.requires.slot))
    ∙ ap (λ (b : Bool). if_joined b spot)
    (ap (λ (r : NodeRow). is_joined r.entry) (sym c.row.ensures) ∙ sym c.is_joined.ensures ∙ c.if-is_joined.true)))))
    c.add_entry.ensures

pub returns : goal.returns
returns c =
    let run = c.args.run.now in
    let spot = c.args.spot in
    adds-same c.args.out.now c.args.out.now no_sources (only_entries (if_join (past_slots run c.args.before) spot))
    (ap only_entries
    (sym
    (if_join-before run.list run.script c.args.before spot (omega (arith, c.if-before-eq0.false, c.requires.slot))
    ∙ ap (λ (b : Bool). if_joined b spot)
    (ap (λ (r : NodeRow). is_joined r.entry) (sym c.row.ensures) ∙ sym c.is_joined.ensures ∙ c.if-is_joined.false))))
    (adds-none c.args.out.now)
