use Rattle.hypothesis.proofs.Unions.{AreUnited}
use Rattle.hypothesis.proofs.losses.united.Given as goal

-- the second set, and of the first those so far
abbrev pub invariant-loop-node : goal.invariant-loop-node
invariant-loop-node l = AreUnited l.all l.first l.fn.second l.node
