use Rattle.std.proofs.Common.{ap, sym, ◌∙◌, subst}
use Rattle.std.proofs.lemmas.Result.{on_ok_weaker}
use Rattle.script_text.specs.Statement.{Statement, says_slots}
use Rattle.script_errors.specs.declared.error.Wrong.TheVariants as wrong
use Rattle.script_errors.specs.Errors.{again, stated_wrong, with_taken}
use Rattle.script_errors.specs.SoFar.{StandsFor}
use Rattle.script_errors.proofs.Stated.{states_slots, finishes_told, finishes_kept}
use Rattle.script_errors.proofs.line.finish_slots.Goals as goal

pub returns-in-Some : goal.returns-in-Some
returns-in-Some c = on_ok_weaker c.tell.result (λ now list before stands.
    finishes_told list before _ _ _ _ _ _ _ _ (wrong.SlotsAgain c.in-Some.line)
    (ap (stated_wrong list before) (states_slots c.args.line.now c.args.first c.args.words.now c.requires.full)
    ∙ ap (again wrong.SlotsAgain) (sym (c.line_stating_slots.ensures list before stands) ∙ c.in-Some.is))
    (c.name.ensures list before stands) now) c.tell.ensures

pub returns : goal.returns
returns c = λ list before stands.
    let says = states_slots c.args.line.now c.args.first c.args.words.now c.requires.full in
    finishes_kept list before _ _ _ _ _ _ _
    (ap (stated_wrong list before) says
    ∙ ap (again wrong.SlotsAgain) (sym (c.line_stating_slots.ensures list before stands) ∙ c.in_default.is))
    (subst (λ (s : Statement). StandsFor list c.take_slots.new.self (with_taken before c.args.number s))
    (ap says_slots (c.number_at.ensures c.requires.number) ∙ sym says)
    (c.take_slots.ensures list before stands))
