use Rattle.chart_text.proofs.Words.{◌∙◌, ap, puts_both}
use Rattle.chart_text.specs.Columns.{key_top}
use Rattle.chart_text.specs.Key.{key_and_table}
use Rattle.chart_text.specs.Worst.{worst_lines}
use Rattle.chart_text.proofs.Tallied.{tallied}
use Rattle.chart_text.proofs.Written.{along}
use Rattle.chart_text.proofs.chart.put_end.Goals as goal

pub returns : goal.returns
returns g c faults listed are counts worst =
    let size = c.args.extent.size in
    let t = tallied size c.args.found.now.tallies.all faults are.whole in
    puts_both
    (puts_both
    (along (λ i. worst_lines size (c.list_top.ensures.value i) (t.harmful i) (worst i)) c.put_worst.ensures.puts)
    (along
    (λ i. key_and_table
    ((c.key_top.ensures.value ∙ ap (key_top size.nodes c.args.extent.many) listed) i) (counts i))
    c.put_key_and_table.ensures))
    c.put.ensures
