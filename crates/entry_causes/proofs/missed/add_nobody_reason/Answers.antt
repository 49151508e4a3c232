use Rattle.std.proofs.Common.{refl, ap, sym, ◌∙◌}
use Rattle.causes.specs.LinesOf.{first_line, lines_where}
use Rattle.causes.specs.Missed.{absence_reason, deafens, nobody_reason, nobody_reason_by}
use Rattle.causes.specs.RunSlots.{entry_in_slot}
use Rattle.causes.specs.Sources.{by_line}
use Rattle.causes.specs.declared.cause.Miss.TheVariants as miss
use Rattle.entry_causes.proofs.Reasons.{reason-same, tells-same}
use Rattle.entry_causes.proofs.FromBelow.{slot_in-number, slot_in-script}
use Rattle.run_rows.specs.Rows.{past_slots, run_slot}
use Rattle.entry_causes.proofs.missed.add_nobody_reason.Goals as goal

pub returns-in_ok-add_line-in-Some : goal.returns-in_ok-add_line-in-Some
returns-in_ok-add_line-in-Some c =
    let run = c.args.run.now in
    let k = c.args.node in
    let s = run_slot run c.args.slot in
    let before = past_slots run c.args.slot in
    let scripts = sym (slot_in-script run.list run.script c.args.slot) in
    let numbers = sym (slot_in-number run.list run.script c.args.slot) in
    reason-same _ c.args.out.now c.add_line.new.self (by_line miss.Deaf c.in-Some.line) (nobody_reason k s before)
    (ap (nobody_reason_by k s before)
    (c.in-Some.ensures ∙ (λ i. first_line (lines_where (deafens k (numbers i)) (scripts i)))))
    (refl, c.in_ok-add_line-in-Some.ensures)

pub returns-in-None : goal.returns-in-None
returns-in-None c =
    let run = c.args.run.now in
    let k = c.args.node in
    let s = run_slot run c.args.slot in
    let before = past_slots run c.args.slot in
    let peer = c.place_slot.result in
    let scripts = sym (slot_in-script run.list run.script c.args.slot) in
    let numbers = sym (slot_in-number run.list run.script c.args.slot) in
    tells-same c.add_absence.result c.args.out.now c.add_absence.new.out
    (absence_reason peer k s before (entry_in_slot peer s)) (nobody_reason k s before)
    (ap (λ p. absence_reason p k s before (entry_in_slot p s)) c.place_slot.ensures.value
    ∙ ap (nobody_reason_by k s before)
    (c.in-None.ensures ∙ (λ i. first_line (lines_where (deafens k (numbers i)) (scripts i)))))
    c.add_absence.ensures
