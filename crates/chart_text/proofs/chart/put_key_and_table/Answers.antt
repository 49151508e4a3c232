use Rattle.chart_text.proofs.Words.{puts_both}
use Rattle.chart_text.proofs.chart.put_key_and_table.Goals as goal

pub returns : goal.returns
returns g c =
    puts_both
    (puts_both (puts_both (puts_both c.put_how_to_read.ensures c.put_key.ensures) c.put_words_meant.ensures)
    c.put_legend.ensures)
    c.put_table.ensures
