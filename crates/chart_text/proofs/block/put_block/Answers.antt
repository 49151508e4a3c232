use Rattle.chart_text.proofs.Words.{puts_one, faults_told_of}
use Rattle.chart_text.proofs.Tallied.{tallied, block-some}
use Rattle.chart_text.proofs.Written.{along}
use Rattle.chart_text.proofs.block.put_block.Goals as goal

pub returns-then-tally-ne0 : goal.returns-then-tally-ne0
returns-then-tally-ne0 g c faults is =
    let size = c.args.extent.size in
    let these = faults_told_of c.args.node faults in
    along
    (block-some size c.args.column c.args.slot c.args.node c.args.tally.now these
    (tallied size c.args.tally.now these is) c.if-tally-ne0.true)
    (puts_one (rw (
      c.sends_class.ensures.text,
      c.chart_corner-at.ensures.x,
      c.chart_corner-at.ensures.y,
    ) at c.make_sum.ensures)
    c.write.ensures)
