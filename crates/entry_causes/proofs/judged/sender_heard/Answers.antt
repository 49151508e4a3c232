use Rattle.std.proofs.Common.{subst}
use Rattle.entry_causes.specs.Hearing.{IsHeardInSlot}
use Rattle.entry_causes.proofs.judged.sender_heard.Goals as goal

pub returns-in-Bits-clause-node : goal.returns-in-Bits-clause-node
returns-in-Bits-clause-node c = λ list s some of.
    let parts = subst (IsHeardInSlot list s) c.in-Bits.is of in parts.0
