use Rattle.std.proofs.Common.{◌≡◌}
use Rattle.std.specs.Prelude.{filter}
use Rattle.ttp_base.specs.NodeSet.{below}
use Rattle.ttp_world.specs.Script.{is_ever_on}
use Rattle.broken_rules.proofs.start.ever_on.Given as goal

-- those of the nodes so far
abbrev pub invariant-loop-node : goal.invariant-loop-node
invariant-loop-node l = l.on ≡ filter (is_ever_on l.script) (below l.node)
