use Rattle.std.proofs.Common.{ap, sym, ◌∙◌}
use Rattle.causes.specs.LinesOf.{remaining_in, strikes, widest_line}
use Rattle.entry_causes.proofs.WhoSends.{strikes-the_one}
use Rattle.entry_causes.specs.Senders.{the_one}
use Rattle.run_looks.specs.Questions.{senders_by}
use Rattle.entry_causes.proofs.FromBelow.{slot_in-number, slot_in-script}
use Rattle.run_rows.specs.Rows.{run_slot}
use Rattle.ttp_world.specs.declared.script.Fault.TheVariants as fault
use Rattle.entry_causes.proofs.senders.noisy_in.Goals as goal

pub returns : goal.returns
returns c =
    let run = c.args.run.now in
    let s = run_slot run c.args.slot in
    let k = c.args.node in
    let ch = c.args.channel in
    let one = c.alone.ensures ∙ ap the_one c.remaining_in.ensures.value in
    let scripts = sym (slot_in-script run.list run.script c.args.slot) in
    let numbers = sym (slot_in-number run.list run.script c.args.slot) in
    c.widest_line.ensures
    ∙ (λ i. widest_line (λ e. strikes fault.Noise k ch c.args.slot (senders_by (one i)) e) run.script)
    ∙ (λ i. widest_line (λ e. strikes-the_one fault.Noise k ch c.args.slot (remaining_in ch s) e i) run.script)
    ∙ (λ i. widest_line (strikes fault.Noise k ch (numbers i) (remaining_in ch s)) (scripts i))
