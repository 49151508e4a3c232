use Rattle.chart_text.proofs.Words.{puts_below}
use Rattle.chart_text.specs.Chart.{row_names}
use Rattle.chart_text.proofs.band.put_bands.Goals as goal

pub loop-band-preserved : goal.loop-band-preserved
loop-band-preserved g c =
    puts_below _ _ _ _ _ _ (row_names c.args.extent.size.nodes) c.loop-band.band c.loop-band.invariant
    c.put_names.ensures
