use Rattle.chart_text.proofs.Words.{puts_first, puts_both}
use Rattle.chart_text.proofs.table.put_part.Goals as goal

pub returns : goal.returns
returns g c =
    puts_both
    (puts_first (rw c.doing_word.ensures.text at c.make_text_of.ensures) c.write.ensures c.put_part_head.ensures)
    c.put_kind_rows.ensures
