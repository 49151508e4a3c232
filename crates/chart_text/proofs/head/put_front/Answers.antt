use Rattle.chart_text.proofs.Words.{puts_both, puts_first, puts_one}
use Rattle.chart_text.proofs.head.put_front.Goals as goal

pub returns : goal.returns
returns g c =
    puts_both
    (puts_first c.make_svg.ensures c.write.ensures
    (puts_first c.make_title.ensures c.write-2.ensures c.put_styles.ensures))
    (puts_one c.make_ground.ensures c.write-3.ensures)
