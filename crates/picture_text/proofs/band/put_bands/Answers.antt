use Rattle.picture_text.proofs.Words.{arith}
use Rattle.ttp_base.proofs.Puts.{puts_none, puts_below}
use Rattle.picture_text.proofs.band.put_bands.Goals as goal

pub loop-band-init : goal.loop-band-init
loop-band-init g c = grind (arith, puts_none, puts_below)

pub loop-band-preserved : goal.loop-band-preserved
loop-band-preserved g c = grind (arith, puts_none, puts_below)

pub returns : goal.returns
returns g c = grind (arith, puts_none, puts_below)
