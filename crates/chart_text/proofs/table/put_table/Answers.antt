use Rattle.chart_text.proofs.Words.{puts_both}
use Rattle.chart_text.proofs.table.put_table.Goals as goal

pub returns : goal.returns
returns g c = puts_both (puts_both c.put_part.ensures c.put_part-2.ensures) c.put_part-3.ensures
