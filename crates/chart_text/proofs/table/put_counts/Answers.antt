use Rattle.chart_text.proofs.Words.{one_more, count_line}
use Rattle.chart_text.proofs.table.put_counts.Goals as goal

pub loop-number-preserved : goal.loop-number-preserved
loop-number-preserved g c =
    one_more _ _ _ _ _ _ (count_line c.args.counts.now c.args.at.x c.args.at.y c.args.kind) c.loop-number.number
    c.make_count.new.line c.loop-number.invariant c.write.ensures c.make_count.ensures
