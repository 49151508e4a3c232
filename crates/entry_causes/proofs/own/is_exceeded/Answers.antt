use Rattle.std.proofs.Common.{◌+◌, nat_lt}
use Rattle.entry_causes.proofs.own.is_exceeded.Goals as goal

pub returns : goal.returns
returns c = λ i. nat_lt (c.from.ensures i) (c.from-2.ensures i + c.from-3.ensures i)
