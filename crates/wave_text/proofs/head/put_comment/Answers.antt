use Rattle.wave_text.proofs.Words.{puts_one}
use Rattle.wave_text.proofs.head.put_comment.Goals as goal

pub returns : goal.returns
returns g c = puts_one c.make_comment.ensures c.write.ensures
