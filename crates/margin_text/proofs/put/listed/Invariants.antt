use Rattle.std.proofs.Common.{◌≡◌, ◌≤◌, length}
use Rattle.std.specs.Prelude.{filter}
use Rattle.ttp_base.specs.NodeSet.{below, has_node}
use Rattle.margin_text.proofs.put.listed.Given as goal

-- those so far
abbrev pub invariant-loop-node : goal.invariant-loop-node
invariant-loop-node l = (l.all ≡ filter (has_node l.nodes) (below l.node)) × (length l.all ≤ l.node)
