use Rattle.std.proofs.Common.{ℕ, ap, sym, ◌∙◌}
use Rattle.std.specs.Prelude.{None, Option, unwrap_or}
use Rattle.causes.specs.Clocks.{is_that_slot}
use Rattle.entry_causes.proofs.FromBelow.{slot_in-number, slot_in-script}
use Rattle.ttp_world.specs.Script.{on_slot}
use Rattle.entry_causes.proofs.clocks.comes_on.Goals as goal

pub returns-in-Some : goal.returns-in-Some
returns-in-Some c =
    let run = c.args.run.now in
    let scripts = c.script.ensures.value ∙ sym (slot_in-script run.list run.script c.args.slot) in
    let numbers = sym (slot_in-number run.list run.script c.args.slot) in
    let on = ap (λ (o : Option (Option ℕ)). unwrap_or o None) c.get.ensures ∙ c.in-Some.is in
    ap (is_that_slot c.args.slot) (sym on) ∙ (λ i. is_that_slot (numbers i) (on_slot (scripts i) c.args.node))

pub returns-in-None : goal.returns-in-None
returns-in-None c =
    let run = c.args.run.now in
    let scripts = c.script.ensures.value ∙ sym (slot_in-script run.list run.script c.args.slot) in
    let numbers = sym (slot_in-number run.list run.script c.args.slot) in
    let on = ap (λ (o : Option (Option ℕ)). unwrap_or o None) c.get.ensures ∙ c.in-None.is in
    ap (is_that_slot c.args.slot) (sym on) ∙ (λ i. is_that_slot (numbers i) (on_slot (scripts i) c.args.node))
