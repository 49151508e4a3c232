use Rattle.picture_text.proofs.Words.{arith}
use Rattle.ttp_base.proofs.Puts.{puts_none, puts_below}
use Rattle.picture_text.proofs.beside.put_whys.Goals as goal

pub loop-number-init : goal.loop-number-init
loop-number-init g c = grind (arith, puts_none, puts_below)

pub loop-number-preserved : goal.loop-number-preserved
loop-number-preserved g c = grind (arith, puts_none, puts_below)

pub returns : goal.returns
returns g c = grind (arith, puts_none, puts_below)
