use Rattle.run_rows.specs.Begun.{AreBegun}
use Rattle.run_rows.proofs.begun.first_begun.Given as goal

-- that of the nodes so far
abbrev pub invariant-loop-node : goal.invariant-loop-node
invariant-loop-node l = AreBegun l.list l.script 0 l.node l.begun
