use Rattle.ttp_base.specs.NodeSet.{has_node}
use Rattle.run_costs.specs.States.{firm_sets, IsHeld}
use Rattle.run_costs.proofs.seen_costs.sets.are_split.Given as goal

-- the memberships so far
abbrev pub invariant-loop-k : goal.invariant-loop-k
invariant-loop-k l = IsHeld l.held (firm_sets l.states (has_node l.among) l.k)
