use Rattle.wave_text.proofs.Words.{puts_one}
use Rattle.wave_text.proofs.wave.put_time.Goals as goal

pub returns : goal.returns
returns g c = puts_one c.make_time.ensures c.write.ensures
