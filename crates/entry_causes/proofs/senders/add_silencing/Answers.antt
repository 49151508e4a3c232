use Rattle.std.proofs.Common.{List, ap, subst, sym, ◌∙◌}
use Rattle.std.specs.List.{filter_map}
use Rattle.std.specs.Prelude.{OnOk}
use Rattle.causes.specs.LinesOf.{own_silencing_lines, senders_of, strikes, widest_line}
use Rattle.causes.specs.Sources.{only_lines}
use Rattle.causes.specs.declared.cause.ScriptLine.{ScriptLine}
use Rattle.entry_causes.proofs.WhoSends.{strikes-the_one}
use Rattle.entry_causes.specs.Senders.{the_one}
use Rattle.run_looks.specs.Added.{AddsSources}
use Rattle.run_looks.specs.Questions.{senders_by}
use Rattle.entry_causes.proofs.FromBelow.{slot_in-number, slot_in-script}
use Rattle.run_rows.specs.Rows.{run_slot}
use Rattle.ttp_world.specs.Events.{is_send_fault}
use Rattle.ttp_world.specs.declared.script.Fault.TheVariants as fault
use Rattle.entry_causes.proofs.senders.add_silencing.Goals as goal

pub returns-in-Some : goal.returns-in-Some
returns-in-Some c =
    let run = c.args.run.now in
    let s = run_slot run c.args.slot in
    let k = c.args.node in
    let ch = c.args.channel in
    let senders = senders_of s.frames in
    let one = c.alone.ensures ∙ ap the_one c.senders_in-senders.ensures.value in
    let scripts = sym (slot_in-script run.list run.script c.args.slot) in
    let numbers = sym (slot_in-number run.list run.script c.args.slot) in
    let found =
    c.widest_line.ensures
    ∙ (λ i. widest_line (λ e. strikes fault.Silence k ch c.args.slot (senders_by (one i)) e) run.script)
    ∙ (λ i. widest_line (λ e. strikes-the_one fault.Silence k ch c.args.slot senders e i) run.script)
    ∙ (λ i. widest_line (strikes fault.Silence k ch (numbers i) senders) (scripts i)) in
    subst (λ (lines : List ScriptLine).
    OnOk c.add_line.result (AddsSources c.args.out.now c.add_line.new.self (only_lines lines)))
    (ap (own_silencing_lines s.begun.script ch s.begun.number senders) (sym c.in-Some.is ∙ found))
    c.add_line.ensures

pub returns-in-None : goal.returns-in-None
returns-in-None c =
    let run = c.args.run.now in
    let s = run_slot run c.args.slot in
    let k = c.args.node in
    let ch = c.args.channel in
    let senders = senders_of s.frames in
    let one = c.alone.ensures ∙ ap the_one c.senders_in-senders.ensures.value in
    let scripts = sym (slot_in-script run.list run.script c.args.slot) in
    let numbers = sym (slot_in-number run.list run.script c.args.slot) in
    let found =
    c.widest_line.ensures
    ∙ (λ i. widest_line (λ e. strikes fault.Silence k ch c.args.slot (senders_by (one i)) e) run.script)
    ∙ (λ i. widest_line (λ e. strikes-the_one fault.Silence k ch c.args.slot senders e i) run.script)
    ∙ (λ i. widest_line (strikes fault.Silence k ch (numbers i) senders) (scripts i)) in
    subst (λ (lines : List ScriptLine).
    OnOk c.add_each_silencing.result (AddsSources c.args.out.now c.add_each_silencing.new.out (only_lines lines)))
    ((λ i. filter_map (λ p. widest_line (is_send_fault fault.Silence p ch (numbers i)) (scripts i))
    (c.senders_in-senders.ensures.value i))
    ∙ ap (own_silencing_lines s.begun.script ch s.begun.number senders) (sym c.in-None.is ∙ found))
    c.add_each_silencing.ensures
