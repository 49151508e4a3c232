use Rattle.std.proofs.Common.{◌≡◌, take}
use Rattle.std.specs.Prelude.{filter}
use Rattle.ttp_base.specs.NodeSet.{most_nodes, below, has_node}
use Rattle.fault_pairs.specs.Classes.{left_nodes}
use Rattle.pair_runs.proofs.harm.left_nodes.Given as goal

-- those so far
abbrev pub invariant-loop-leave : goal.invariant-loop-leave
invariant-loop-leave l = l.left ≡ filter (has_node (left_nodes (take l.leave-index l.leaves))) (below most_nodes)
