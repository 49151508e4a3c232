use Rattle.frame_laws.proofs.Reading.{read-back}
use Rattle.frame_laws.proofs.laws.way_back.Goals as goal

pub returns : goal.returns
returns c list slot on sending bytes k told = read-back list slot on sending bytes told k
