use Rattle.std.proofs.Common.{◌≡◌, Bool, cond, List, [], ap, subst, sym, ◌∙◌}
use Rattle.std.specs.Prelude.{IfOk, OnOk}
use Rattle.causes.specs.Sources.{only_entries}
use Rattle.causes.specs.declared.cause.ClockNote.{ClockNote}
use Rattle.causes.specs.declared.cause.Spot.{Spot}
use Rattle.entry_causes.proofs.Adding.{adds-none}
use Rattle.entry_causes.specs.Notes.{both_noted, entries_noted, notes_noted}
use Rattle.run_looks.specs.Added.{AddsSources}
use Rattle.run_rows.specs.Rows.{past_slots, run_slot}
use Rattle.entry_causes.proofs.clocks.add_notes.Goals as goal

pub returns-then-has_jumps-clause-entries : goal.returns-then-has_jumps-clause-entries
returns-then-has_jumps-clause-entries c =
    let run = c.args.run.now in
    let both = both_noted c.args.sender c.args.node (run_slot run c.args.slot) (past_slots run c.args.slot) in
    subst (λ (spots : List Spot). AddsSources c.args.out.now c.args.out.now (only_entries spots))
    (ap (λ (b : Bool). cond b [] (entries_noted both)) (sym c.if-has_jumps.true))
    (adds-none c.args.out.now)

pub returns-then-has_jumps-clause-notes : goal.returns-then-has_jumps-clause-notes
returns-then-has_jumps-clause-notes c =
    let run = c.args.run.now in
    let both = both_noted c.args.sender c.args.node (run_slot run c.args.slot) (past_slots run c.args.slot) in
    c.new.ensures ∙ ap (λ (b : Bool). cond b [] (notes_noted both)) (sym c.if-has_jumps.true)

pub returns-clause-entries : goal.returns-clause-entries
returns-clause-entries c =
    let run = c.args.run.now in
    let both = both_noted c.args.sender c.args.node (run_slot run c.args.slot) (past_slots run c.args.slot) in
    subst (λ (spots : List Spot).
    OnOk c.add_both_noted.result (AddsSources c.args.out.now c.add_both_noted.new.out (only_entries spots)))
    (ap (λ (b : Bool). cond b [] (entries_noted both)) (sym c.if-has_jumps.false))
    c.add_both_noted.ensures.entries

pub returns-clause-notes : goal.returns-clause-notes
returns-clause-notes c =
    let run = c.args.run.now in
    let both = both_noted c.args.sender c.args.node (run_slot run c.args.slot) (past_slots run c.args.slot) in
    subst (λ (all : List ClockNote). IfOk c.add_both_noted.result (λ notes. notes ≡ all))
    (ap (λ (b : Bool). cond b [] (notes_noted both)) (sym c.if-has_jumps.false))
    c.add_both_noted.ensures.notes
