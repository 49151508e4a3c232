use Rattle.controller.proofs.Words.{◌≡◌, ◌++◌}
use Rattle.ttp_base.specs.NodeSet.{below}
use Rattle.ttp_world.specs.ZerosWorld.{zeros_chosen}
use Rattle.std.specs.Prelude.{map}
use Rattle.controller.proofs.zeros_run.push_zeros.Given as goal

-- the messages of the nodes so far
abbrev pub invariant-loop-node : goal.invariant-loop-node
invariant-loop-node l = l.messages ≡ l.initial.messages ++ map (zeros_chosen l.list) (below l.node)
