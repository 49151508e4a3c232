use Rattle.std.proofs.Common.{◌≡◌, Bool, true, false, cond, List, [], ◌∷◌, ap, subst, sym, ◌∙◌}
use Rattle.std.proofs.lemmas.Option.{get_or_from_slice_get}
use Rattle.std.specs.Prelude.{OnOk, pos, ◌≤ℤ◌}
use Rattle.causes.specs.Clocks.{is_outside}
use Rattle.causes.specs.Sources.{only_lines}
use Rattle.causes.specs.declared.cause.ScriptLine.{ScriptLine}
use Rattle.causes.specs.declared.cause.ScriptLine.TheVariants as line
use Rattle.entry_causes.proofs.Adding.{adds-none}
use Rattle.run_looks.specs.Added.{AddsSources}
use Rattle.entry_causes.proofs.FromBelow.{slot_in-list, slot_in-script}
use Rattle.run_rows.specs.Rows.{run_slot}
use Rattle.ttp_world.specs.Script.{drift_of}
use Rattle.ttp_world.specs.declared.medl.Medl.{Medl}
use Rattle.entry_causes.proofs.clocks.add_outside_drift.Goals as goal

pub is_outside-requires : goal.is_outside-requires
is_outside-requires c =
    subst (λ (l : Medl). pos 0 ≤ℤ l.drift) (sym c.list.ensures.value) c.list.ensures.valid.drift.0

pub returns-then-is_outside : goal.returns-then-is_outside
returns-then-is_outside c =
    let run = c.args.run.now in
    let s = run_slot run c.args.slot in
    let k = c.args.node in
    let lists = c.list.ensures.value ∙ sym (slot_in-list run.list run.script c.args.slot) in
    let scripts = c.script.ensures.value ∙ sym (slot_in-script run.list run.script c.args.slot) in
    let drift =
    sym (get_or_from_slice_get c.script.result.now.drift k c.get.result.now (pos 0) c.get.ensures)
    ∙ (λ i. drift_of (scripts i) k) in
    let outside : is_outside s.begun.list.drift (drift_of s.begun.script k) ≡ true =
    sym (λ i. is_outside (lists i).drift (drift i)) ∙ sym c.is_outside.ensures ∙ c.if-is_outside.true in
    subst (λ (lines : List ScriptLine).
    OnOk c.add_line.result (AddsSources c.args.out.now c.add_line.new.self (only_lines lines)))
    (ap (λ (b : Bool). cond b (line.Drift k ∷ []) []) (sym outside))
    c.add_line.ensures

pub returns : goal.returns
returns c =
    let run = c.args.run.now in
    let s = run_slot run c.args.slot in
    let k = c.args.node in
    let lists = c.list.ensures.value ∙ sym (slot_in-list run.list run.script c.args.slot) in
    let scripts = c.script.ensures.value ∙ sym (slot_in-script run.list run.script c.args.slot) in
    let drift =
    sym (get_or_from_slice_get c.script.result.now.drift k c.get.result.now (pos 0) c.get.ensures)
    ∙ (λ i. drift_of (scripts i) k) in
    let outside : is_outside s.begun.list.drift (drift_of s.begun.script k) ≡ false =
    sym (λ i. is_outside (lists i).drift (drift i)) ∙ sym c.is_outside.ensures ∙ c.if-is_outside.false in
    subst (λ (lines : List ScriptLine). AddsSources c.args.out.now c.args.out.now (only_lines lines))
    (ap (λ (b : Bool). cond b (line.Drift k ∷ []) []) (sym outside))
    (adds-none c.args.out.now)
