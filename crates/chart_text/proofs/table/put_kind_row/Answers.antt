use Rattle.chart_text.proofs.Words.{puts_first}
use Rattle.chart_text.proofs.table.put_kind_row.Goals as goal

pub returns : goal.returns
returns g c =
    puts_first c.make_kind.ensures c.write.ensures (rw c.kind_number.ensures.value at c.put_counts.ensures)
