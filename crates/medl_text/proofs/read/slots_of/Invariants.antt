use Rattle.medl_text.proofs.Tables.{AreRead}
use Rattle.medl_text.proofs.read.slots_of.Given as goal

abbrev pub invariant-loop-k : goal.invariant-loop-k
invariant-loop-k l = AreRead l.rounds l.modes l.elements l.plans l.k
