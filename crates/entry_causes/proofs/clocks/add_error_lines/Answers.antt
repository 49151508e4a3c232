use Rattle.std.proofs.Common.{◌≡◌, Bool, true, false, List, [], ap, subst, sym, ◌∙◌}
use Rattle.std.specs.Prelude.{OnOk, pos, ◌≤ℤ◌}
use Rattle.causes.specs.Clocks.{errs, is_outside}
use Rattle.causes.specs.LinesOf.{lines_where}
use Rattle.causes.specs.Sources.{only_lines}
use Rattle.causes.specs.declared.cause.ScriptLine.{ScriptLine}
use Rattle.entry_causes.proofs.Adding.{adds-none}
use Rattle.run_looks.specs.Added.{AddsSources}
use Rattle.entry_causes.proofs.FromBelow.{slot_in-list, slot_in-number, slot_in-script}
use Rattle.run_rows.specs.Rows.{run_slot}
use Rattle.ttp_world.specs.Script.{reading_error}
use Rattle.ttp_world.specs.declared.events.Incidents.{Incidents}
use Rattle.ttp_world.specs.declared.medl.Medl.{Medl}
use Rattle.entry_causes.proofs.clocks.add_error_lines.Goals as goal

abbrev if_outside : Bool → List ScriptLine → List ScriptLine
if_outside outside lines = elim outside [ true ↦ lines | false ↦ [] ]

pub is_outside-requires : goal.is_outside-requires
is_outside-requires c =
    subst (λ (l : Medl). pos 0 ≤ℤ l.error) (sym c.list.ensures.value) c.list.ensures.valid.error.0

pub returns-then-is_outside : goal.returns-then-is_outside
returns-then-is_outside c =
    let run = c.args.run.now in
    let s = run_slot run c.args.slot in
    let k = c.args.node in
    let lists = c.list.ensures.value ∙ sym (slot_in-list run.list run.script c.args.slot) in
    let scripts = c.script.ensures.value ∙ sym (slot_in-script run.list run.script c.args.slot) in
    let ours = sym (slot_in-script run.list run.script c.args.slot) in
    let numbers = sym (slot_in-number run.list run.script c.args.slot) in
    let error =
    ap (λ (i : Incidents). i.error) c.incidents-incidents.ensures.value
    ∙ (λ i. reading_error (scripts i) k (numbers i)) in
    let outside : is_outside s.begun.list.error (reading_error s.begun.script k s.begun.number) ≡ true =
    sym (λ i. is_outside (lists i).error (error i)) ∙ sym c.is_outside.ensures ∙ c.if-is_outside.true in
    subst (λ (lines : List ScriptLine).
    OnOk c.add_lines.result (AddsSources c.args.out.now c.add_lines.new.out (only_lines lines)))
    ((λ i. lines_where (errs k (numbers i)) (ours i))
    ∙ ap (λ (b : Bool). if_outside b (lines_where (errs k s.begun.number) s.begun.script)) (sym outside))
    c.add_lines.ensures

pub returns : goal.returns
returns c =
    let run = c.args.run.now in
    let s = run_slot run c.args.slot in
    let k = c.args.node in
    let lists = c.list.ensures.value ∙ sym (slot_in-list run.list run.script c.args.slot) in
    let scripts = c.script.ensures.value ∙ sym (slot_in-script run.list run.script c.args.slot) in
    let numbers = sym (slot_in-number run.list run.script c.args.slot) in
    let error =
    ap (λ (i : Incidents). i.error) c.incidents-incidents.ensures.value
    ∙ (λ i. reading_error (scripts i) k (numbers i)) in
    let outside : is_outside s.begun.list.error (reading_error s.begun.script k s.begun.number) ≡ false =
    sym (λ i. is_outside (lists i).error (error i)) ∙ sym c.is_outside.ensures ∙ c.if-is_outside.false in
    subst (λ (lines : List ScriptLine). AddsSources c.args.out.now c.args.out.now (only_lines lines))
    (ap (λ (b : Bool). if_outside b (lines_where (errs k s.begun.number) s.begun.script)) (sym outside))
    (adds-none c.args.out.now)
