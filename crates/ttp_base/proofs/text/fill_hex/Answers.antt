use Rattle.std.proofs.Common.{arith}
use Rattle.std.proofs.lemmas.Grind.{common_steps}
use Rattle.ttp_base.proofs.Hex.{hex_step}
use Rattle.ttp_base.proofs.text.fill_hex.Goals as goal

pub loop-place-preserved : goal.loop-place-preserved
loop-place-preserved c = grind (arith, common_steps, hex_step)
