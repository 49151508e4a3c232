use Rattle.chart_text.proofs.Words.{puts_both, puts_two}
use Rattle.chart_text.proofs.key.put_key.Goals as goal

pub returns : goal.returns
returns g c =
    puts_both c.put_key_squares.ensures
    (puts_two c.make_text_of.ensures c.make_text_of-2.ensures c.write.ensures c.write-2.ensures)
