use Rattle.std.proofs.Common.{◌≡◌, get_or, None}
use Rattle.std.specs.List.{filter_map}
use Rattle.ttp_base.specs.NodeSet.{below}
use Rattle.run_costs.proofs.seen_costs.seen.leaves.Given as goal

-- those so far
abbrev pub invariant-loop-node : goal.invariant-loop-node
invariant-loop-node l = l.leaves ≡ filter_map (λ k. get_or l.left k None) (below l.node)
