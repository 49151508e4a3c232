use Rattle.std.proofs.Common.{◌≡◌}
use Rattle.std.specs.Prelude.{filter}
use Rattle.ttp_base.specs.NodeSet.{below}
use Rattle.ttp_world.specs.Medl.{may_start}
use Rattle.broken_rules.proofs.start.starters_of.Given as goal

-- those of the nodes so far
abbrev pub invariant-loop-node : goal.invariant-loop-node
invariant-loop-node l = l.starters ≡ filter (may_start l.list) (below l.node)
