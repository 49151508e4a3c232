use Rattle.chart_text.proofs.Words.{puts_first, puts_two}
use Rattle.chart_text.proofs.key.put_words_meant.Goals as goal

pub returns : goal.returns
returns g c =
    puts_first c.make_words.ensures c.write.ensures
    (puts_first c.make_words-2.ensures c.write-2.ensures
    (puts_two c.make_words-3.ensures c.make_words-4.ensures c.write-3.ensures c.write-4.ensures))
