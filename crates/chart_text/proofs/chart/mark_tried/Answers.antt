use Rattle.chart_text.proofs.Words.{◌||◌, ◌∙◌, ap, Bool, length, arith, is_tried}
use Rattle.chart_text.proofs.Slots.{tried-marks}
use Rattle.chart_text.proofs.chart.mark_tried.Goals as goal

pub returns-clause-marks : goal.returns-clause-marks
returns-clause-marks c =
    tried-marks c.sums_of.new.marks (length c.args.marks.now) c.args.pieces (omega arith)
    (λ t less. c.sums_of.ensures.marks t less
    ∙ ap (λ (b : Bool). b || is_tried c.args.pieces t) (c.requires.none t))
