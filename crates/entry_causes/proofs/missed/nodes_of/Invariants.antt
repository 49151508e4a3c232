use Rattle.std.proofs.Common.{◌≡◌, filter}
use Rattle.ttp_base.specs.NodeSet.{below, has_node}
use Rattle.entry_causes.proofs.missed.nodes_of.Given as goal

-- the first of them
abbrev pub invariant-loop-node : goal.invariant-loop-node
invariant-loop-node l = l.list ≡ filter (has_node l.set) (below l.node)
