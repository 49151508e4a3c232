use Rattle.chart_text.proofs.Words.{◌≡◌, ◌∙◌, length, ap, arith, first_told_slot, does_harm, marked_slots, Size}
use Rattle.chart_text.specs.Columns.{tried_slots, shown_among}
use Rattle.chart_text.proofs.Slots.{written-over}
use Rattle.chart_text.proofs.chart.shown_marks.Goals as goal

pub returns-in-Ok-clause-marks : goal.returns-in-Ok-clause-marks
returns-in-Ok-clause-marks c =
    let campaign = c.args.campaign.now in
    let new = c.keep_shown.new.marks in
    let long : c.in-Ok.marks.len ≡ length new =
    omega (arith, c.in-Ok.marks.ok.0, c.deref_mut.ensures.len, c.keep_shown.auto.marks) in
    let nodes = ap (λ (size : Size). size.nodes) c.requires.size in
    let slots = ap (λ (size : Size). size.slots) c.requires.size in
    let harm =
    c.requires.harm ∙ ap (λ (size : Size). first_told_slot (does_harm size) campaign.faults) c.requires.size in
    let tried =
    ap marked_slots c.deref_mut.ensures.value ∙ c.in-Ok.ensures.marks
    ∙ (λ i. tried_slots (slots i) (c.pieces.ensures i)) in
    ap marked_slots (written-over new c.in-Ok.marks.items c.in-Ok.marks.len long) ∙ c.keep_shown.ensures
    ∙ (λ i. shown_among (nodes i) (harm i) c.args.asked (tried i))
