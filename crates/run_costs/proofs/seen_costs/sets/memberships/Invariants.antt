use Rattle.std.proofs.Common.{◌≡◌, true}
use Rattle.campaign.specs.Cost.{each_once}
use Rattle.run_costs.specs.States.{firm_sets}
use Rattle.run_costs.proofs.seen_costs.sets.memberships.Given as goal

-- those so far
abbrev pub invariant-loop-k : goal.invariant-loop-k
invariant-loop-k l = l.sets ≡ each_once (firm_sets l.states (λ k. true) l.k)
