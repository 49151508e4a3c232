use Rattle.run_rows.specs.Begun.{AreBegun}
use Rattle.run_rows.proofs.begun.all_begun.Given as goal

-- that of the nodes so far
abbrev pub invariant-loop-node : goal.invariant-loop-node
invariant-loop-node l = AreBegun l.list l.script l.slot l.node l.begun
