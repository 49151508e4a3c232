use Rattle.std.proofs.Common.{◌≡◌}
use Rattle.std.specs.Prelude.{filter}
use Rattle.ttp_base.specs.NodeSet.{below}
use Rattle.ttp_world.specs.Script.{drift_of}
use Rattle.broken_rules.specs.Clocks.{is_past}
use Rattle.broken_rules.proofs.clocks.drifts_past.Given as goal

-- those of the nodes so far
abbrev pub invariant-loop-node : goal.invariant-loop-node
invariant-loop-node l = l.past ≡ filter (λ k. is_past l.list.drift (drift_of l.script k)) (below l.node)
