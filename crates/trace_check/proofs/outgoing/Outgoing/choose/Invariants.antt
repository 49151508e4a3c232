use Rattle.trace_check.proofs.Taken.{HasLookedAt}
use Rattle.trace_check.proofs.outgoing.Outgoing.choose.Given as goal

-- the lines of the nodes so far were looked at
abbrev pub invariant-loop-node : goal.invariant-loop-node
invariant-loop-node l = HasLookedAt l.self l.list l.script l.slot l.text l.rest l.node
