use Rattle.chart_text.proofs.Words.{arith}
use Rattle.chart_text.proofs.Slots.{asked-marks}
use Rattle.chart_text.proofs.marks.keep_asked.Goals as goal

pub returns : goal.returns
returns c =
    asked-marks c.args.marks.now c.loop-t.marks c.args.asked (omega arith)
    (λ t less. c.loop-t.invariant.before t (omega (arith, less)))
