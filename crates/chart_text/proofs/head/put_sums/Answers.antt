use Rattle.chart_text.proofs.Words.{puts_two}
use Rattle.chart_text.proofs.head.put_sums.Goals as goal

pub returns : goal.returns
returns g c = puts_two c.make_counts.ensures c.make_counts-2.ensures c.write.ensures c.write-2.ensures
