use Rattle.hypothesis.proofs.Words.{ap, nat_lt}
use Rattle.hypothesis.proofs.arms.joins_in.Goals as goal

pub returns : goal.returns
returns c = λ list script start are. ap (nat_lt 0) (c.slot_at.ensures list script start are).joined
