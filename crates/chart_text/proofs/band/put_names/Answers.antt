use Rattle.chart_text.proofs.Words.{puts_both, puts_two}
use Rattle.chart_text.proofs.band.put_names.Goals as goal

pub returns : goal.returns
returns g c =
    puts_both (rw c.columns.ensures.value at c.put_node_names.ensures)
    (puts_two (rw (c.chart_y-y.ensures.value, c.columns.ensures.value) at c.make_text_of.ensures)
    (rw (c.chart_y-y.ensures.value, c.columns.ensures.value) at c.make_text_of-2.ensures)
    c.write.ensures c.write-2.ensures)
