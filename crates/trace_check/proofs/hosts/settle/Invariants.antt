use Rattle.trace_check.proofs.SettledLoop.{HasSettled}
use Rattle.trace_check.proofs.hosts.settle.Given as goal

-- the rings of the nodes so far have what the slot brought
abbrev pub invariant-loop-node : goal.invariant-loop-node
invariant-loop-node l = HasSettled l.plant l.fn.incoming l.incoming l.list l.node
