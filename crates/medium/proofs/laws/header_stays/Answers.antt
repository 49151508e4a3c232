use Rattle.medium.proofs.Headers.{header_stays}
use Rattle.medium.proofs.laws.header_stays.Goals as goal

pub returns : goal.returns
returns c = header_stays
