use Rattle.ttp_base.proofs.Puts.{puts_one}
use Rattle.picture_text.proofs.head.put_back_said.Goals as goal

pub returns-in-Some : goal.returns-in-Some
returns-in-Some g c = rw c.in-Some.is (puts_one c.make_back_said.ensures c.write.ensures)
