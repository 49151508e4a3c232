use Rattle.trace_check.proofs.Shown.{HasNodesSoFar}
use Rattle.trace_check.proofs.nodes.follow_nodes.Given as goal

-- the text begins with the lines of the nodes so far
abbrev pub invariant-loop-node : goal.invariant-loop-node
invariant-loop-node l = HasNodesSoFar l.plant l.incoming l.list l.slot l.lines l.text l.rest l.node
