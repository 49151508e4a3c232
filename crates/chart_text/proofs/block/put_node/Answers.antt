use Rattle.chart_text.proofs.Words.{◌∙◌, [], puts_two, faults_told_of}
use Rattle.chart_text.specs.declared.sum.Summed.TheVariants as summed
use Rattle.chart_text.proofs.Tallied.{tallied, sum-same, harmful-same}
use Rattle.chart_text.proofs.block.put_node.Goals as goal

pub returns : goal.returns
returns g c faults is =
    let size = c.args.extent.size in
    let these = faults_told_of c.args.node faults in
    let t = tallied size c.args.tally.now these is in
    puts_two
    (rw c.chart_y-y.ensures.value at c.make_sum.ensures
    ∙ sum-same size c.args.tally.now these t (summed.OfNode c.args.node) [] _ _)
    (rw c.chart_y-y.ensures.value at c.make_harmful.ensures ∙ harmful-same size c.args.tally.now these t _ _)
    c.write.ensures c.write-2.ensures
