use Rattle.chart_text.proofs.Words.{puts_first}
use Rattle.chart_text.proofs.block.put_beside.Goals as goal

pub returns : goal.returns
returns g c faults are =
    puts_first (rw c.beside_x-x.ensures.value at c.make_text_of.ensures) c.write.ensures
    (puts_first (rw c.beside_x-x.ensures.value at c.make_text_of-2.ensures) c.write-2.ensures
    (puts_first (rw c.beside_x-x.ensures.value at c.make_text_of-3.ensures) c.write-3.ensures
    (rw c.beside_x-x.ensures.value at c.put_nodes.ensures faults are)))
