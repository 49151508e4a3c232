use Rattle.chart_text.proofs.Words.{◌∙◌, ap, sym, ℕ, Some, arith}
use Rattle.chart_text.proofs.Slots.{place-marked, place-unmarked, within-marks}
use Rattle.chart_text.proofs.marks.place_in.Goals as goal

pub count_before-requires : goal.count_before-requires
count_before-requires c =
    omega (arith, within-marks c.args.marks.now c.args.slot (sym c.has_mark.ensures ∙ c.if-has_mark.true))

pub returns-then-has_mark : goal.returns-then-has_mark
returns-then-has_mark c =
    let is = sym c.has_mark.ensures ∙ c.if-has_mark.true in
    ap (λ (n : ℕ). Some n) c.count_before.ensures.count
    ∙ sym (place-marked c.args.marks.now c.args.slot (within-marks c.args.marks.now c.args.slot is) is)

pub returns-else-has_mark : goal.returns-else-has_mark
returns-else-has_mark c =
    sym (place-unmarked c.args.marks.now c.args.slot (sym c.has_mark.ensures ∙ c.if-has_mark.false))
