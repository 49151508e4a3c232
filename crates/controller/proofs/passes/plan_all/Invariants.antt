use Rattle.controller.proofs.InSlot.{AreSent}
use Rattle.controller.proofs.passes.plan_all.Given as goal

abbrev pub invariant-loop-k : goal.invariant-loop-k
invariant-loop-k l = AreSent l.list l.script l.slot l.chosen l.k l.fn.seats l.seats l.medium
