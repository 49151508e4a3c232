use Rattle.std.proofs.Common.{◌≡◌, get_or, None}
use Rattle.std.specs.Prelude.{filter, is_some}
use Rattle.ttp_base.specs.NodeSet.{below}
use Rattle.run_costs.proofs.seen_costs.seen.left_nodes.Given as goal

-- those so far
abbrev pub invariant-loop-node : goal.invariant-loop-node
invariant-loop-node l = l.all ≡ filter (λ k. is_some (get_or l.left k None)) (below l.node)
