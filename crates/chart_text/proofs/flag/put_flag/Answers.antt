use Rattle.chart_text.proofs.Words.{puts_two}
use Rattle.chart_text.proofs.flag.put_flag.Goals as goal

pub returns-in-Some : goal.returns-in-Some
returns-in-Some g c =
    rw c.in-Some.is
    (puts_two (rw (c.from.ensures, c.chart_x-x.ensures.value, c.chart_y-y.ensures.value) at c.make_pole.ensures)
    (rw (c.chart_x-x.ensures.value, c.chart_y-y.ensures.value) at c.make_name.ensures)
    c.write.ensures c.write-in-Some.ensures)
