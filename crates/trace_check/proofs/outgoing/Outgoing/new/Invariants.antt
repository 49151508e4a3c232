use Rattle.trace_check.proofs.FirstOutgoing.{AreFirst}
use Rattle.trace_check.proofs.outgoing.Outgoing.new.Given as goal

-- the nodes so far have their zeros
abbrev pub invariant-loop-node : goal.invariant-loop-node
invariant-loop-node l = AreFirst l.newest l.chosen l.list l.node
