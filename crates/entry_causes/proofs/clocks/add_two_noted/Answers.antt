use Rattle.std.proofs.Common.{◌++◌, [], ◌∷◌, List, ap, subst, sym, ◌∙◌}
use Rattle.std.proofs.lemmas.List.{append-nil}
use Rattle.causes.specs.Clocks.{noted_clock}
use Rattle.causes.specs.Sources.{only_entries}
use Rattle.causes.specs.declared.cause.ClockNote.{ClockNote}
use Rattle.causes.specs.declared.cause.Spot.{Spot}
use Rattle.entry_causes.proofs.Adding.{adds-both}
use Rattle.run_looks.specs.Added.{AddsSources}
use Rattle.run_rows.specs.Rows.{past_slots, run_slot}
use Rattle.entry_causes.proofs.clocks.add_two_noted.Goals as goal

pub returns-clause-entries : goal.returns-clause-entries
returns-clause-entries c =
    let run = c.args.run.now in
    let s = run_slot run c.args.slot in
    let before = past_slots run c.args.slot in
    let first = (noted_clock c.args.first s before).entries in
    let second = (noted_clock c.args.second s before).entries in
    subst (λ (spots : List Spot). AddsSources c.args.out.now c.add_noted-2.new.out (only_entries (first ++ spots)))
    (sym (append-nil second))
    (adds-both c.args.out.now c.add_noted.new.out c.add_noted-2.new.out _ _ c.in_ok-add_noted.ensures.entries
    c.in_ok-add_noted-2.ensures.entries)

pub returns-clause-notes : goal.returns-clause-notes
returns-clause-notes c =
    let run = c.args.run.now in
    let s = run_slot run c.args.slot in
    let before = past_slots run c.args.slot in
    let first = (noted_clock c.args.first s before).note in
    let second = (noted_clock c.args.second s before).note in
    c.in_ok-add_noted-2.ensures.notes
    ∙ ap (λ (notes : List ClockNote). notes ++ second ∷ [])
    (c.in_ok-add_noted.ensures.notes ∙ ap (λ (notes : List ClockNote). notes ++ first ∷ []) c.new-notes.ensures)
