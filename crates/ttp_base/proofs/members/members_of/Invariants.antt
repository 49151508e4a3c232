use Rattle.std.proofs.Common.{◌≡◌}
use Rattle.std.specs.Prelude.{◌==◌}
use Rattle.std.specs.List.{filter}
use Rattle.std.specs.Int.{bit_at}
use Rattle.ttp_base.specs.NodeSet.{below}
use Rattle.ttp_base.proofs.members.members_of.Given as goal

-- the members so far
abbrev pub invariant-loop-node : goal.invariant-loop-node
invariant-loop-node l = l.members ≡ filter (λ k. bit_at l.word k == 1) (below l.node)
