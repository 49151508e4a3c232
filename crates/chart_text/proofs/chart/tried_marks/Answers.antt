use Rattle.chart_text.proofs.Words.{◌≡◌, ◌∙◌, ℕ, length, ap, arith, marked_slots}
use Rattle.chart_text.specs.Columns.{tried_slots}
use Rattle.chart_text.proofs.Slots.{written-over}
use Rattle.chart_text.proofs.chart.tried_marks.Goals as goal

pub returns-in-Ok-clause-marks : goal.returns-in-Ok-clause-marks
returns-in-Ok-clause-marks c =
    let new = c.mark_tried-sums.new.marks in
    let long : c.in-Ok.marks.len ≡ length new =
    omega (arith, c.in-Ok.marks.ok.0, c.deref_mut.ensures.len, c.mark_tried-sums.auto.marks) in
    let slots : length c.deref_mut.result.now ≡ c.args.slots =
    omega (arith, c.in-Ok.marks.ok.0, c.deref_mut.ensures.len, c.in-Ok.ensures.len) in
    ap marked_slots (written-over new c.in-Ok.marks.items c.in-Ok.marks.len long) ∙ c.mark_tried-sums.ensures.marks
    ∙ ap (λ (n : ℕ). tried_slots n c.args.pieces) slots
