use Rattle.chart_text.proofs.Words.{◌&&◌, ◌∙◌, ap, sym, Bool, not, ◌==◌, list_any, marked_slots}
use Rattle.chart_text.proofs.Slots.{marked-any}
use Rattle.chart_text.proofs.survey.is_hidden_harm.Goals as goal

pub returns-then-does_harm : goal.returns-then-does_harm
returns-then-does_harm c =
    ap not (c.has_mark.ensures ∙ sym (marked-any c.args.marks.now c.args.fault.slot))
    ∙ ap (λ (b : Bool). b && not (list_any (λ s. s == c.args.fault.slot) (marked_slots c.args.marks.now)))
    (sym (sym c.does_harm.ensures ∙ c.if-does_harm.true))
