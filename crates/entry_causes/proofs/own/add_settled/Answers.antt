use Rattle.std.proofs.Common.{true, false, [], ◌∷◌, ap, sym, ◌∙◌}
use Rattle.causes.specs.RunSlots.{is_judged_so}
use Rattle.causes.specs.Sources.{no_sources, only_entries}
use Rattle.causes.specs.declared.cause.Spot.{Spot}
use Rattle.entry_causes.proofs.Adding.{adds-none, on-ok}
use Rattle.entry_causes.proofs.OwnFacts.{settled-by}
use Rattle.entry_causes.proofs.Past.{spot-in}
use Rattle.entry_causes.proofs.Remaining.{adds-same}
use Rattle.entry_causes.specs.Told.{settled_in}
use Rattle.run_rows.specs.Rows.{run_slot}
use Rattle.run_rows.specs.declared.row.NodeRow.{NodeRow}
use Rattle.std.specs.Prelude.{is_some}
use Rattle.causes.specs.RunSlots.{doubted_in}
use Rattle.std.proofs.Common.{refl}
use Rattle.ttp_world.specs.Acknowledgement.{is_correct}
use Rattle.entry_causes.proofs.own.add_settled.Goals as goal

pub returns-then-not-is_judged_so : goal.returns-then-not-is_judged_so
returns-then-not-is_judged_so c =
    let s = run_slot c.args.run.now c.args.slot in
    let k = c.args.node in
    let judged =
    ap (λ (r : NodeRow). is_judged_so is_correct r.entry) (sym c.row.ensures) ∙ sym c.is_judged_so.ensures
    ∙ c.if-not-is_judged_so.true in
    adds-same c.args.out.now c.args.out.now no_sources (only_entries (settled_in k (s ∷ [])))
    (ap only_entries (sym (settled-by k s false (is_some (doubted_in k s)) judged refl))) (adds-none c.args.out.now)

pub returns-then-doubts : goal.returns-then-doubts
returns-then-doubts c =
    let run = c.args.run.now in
    let s = run_slot run c.args.slot in
    let k = c.args.node in
    let judged =
    ap (λ (r : NodeRow). is_judged_so is_correct r.entry) (sym c.row.ensures) ∙ sym c.is_judged_so.ensures
    ∙ c.if-not-is_judged_so.false in
    on-ok c.add_entry.result
    (adds-same c.args.out.now c.add_entry.new.self (only_entries (record { slot = c.args.slot; node = k } ∷ []))
    (only_entries (settled_in k (s ∷ [])))
    (ap (λ (spot : Spot). only_entries (spot ∷ [])) (sym (spot-in run.list run.script c.args.slot k))
    ∙ ap only_entries (sym (settled-by k s true true judged (sym c.doubts.ensures ∙ c.if-doubts.true)))))
    c.add_entry.ensures

pub returns : goal.returns
returns c =
    let s = run_slot c.args.run.now c.args.slot in
    let k = c.args.node in
    let judged =
    ap (λ (r : NodeRow). is_judged_so is_correct r.entry) (sym c.row.ensures) ∙ sym c.is_judged_so.ensures
    ∙ c.if-not-is_judged_so.false in
    adds-same c.args.out.now c.args.out.now no_sources (only_entries (settled_in k (s ∷ [])))
    (ap only_entries (sym (settled-by k s true false judged (sym c.doubts.ensures ∙ c.if-doubts.false))))
    (adds-none c.args.out.now)
