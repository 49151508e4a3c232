use Rattle.std.proofs.Common.{◌≡◌}
use Rattle.std.specs.Prelude.{filter}
use Rattle.ttp_base.specs.NodeSet.{below}
use Rattle.broken_rules.specs.Start.{is_late}
use Rattle.broken_rules.proofs.start.late_nodes.Given as goal

-- those of the nodes so far
abbrev pub invariant-loop-node : goal.invariant-loop-node
invariant-loop-node l = l.late ≡ filter (is_late l.script l.slot) (below l.node)
