use Rattle.std.proofs.Common.{◌≡◌}
use Rattle.std.specs.Prelude.{filter}
use Rattle.ttp_base.specs.NodeSet.{below}
use Rattle.ttp_world.specs.Hypothesis.{is_steady}
use Rattle.broken_faults.proofs.few.left_of.Given as goal

-- those of the nodes so far
abbrev pub invariant-loop-node : goal.invariant-loop-node
invariant-loop-node l = l.left ≡ filter (is_steady l.list l.script l.faulty) (below l.node)
