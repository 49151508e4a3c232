use Rattle.std.proofs.Common.{◌≡◌, ◌&&◌, not}
use Rattle.std.specs.Prelude.{filter}
use Rattle.ttp_base.specs.NodeSet.{below, has_node}
use Rattle.pair_classes.proofs.classes.members_but.Given as goal

-- those so far
abbrev pub invariant-loop-node : goal.invariant-loop-node
invariant-loop-node l = l.members ≡ filter (λ k. has_node l.one k && not (has_node l.other k)) (below l.node)
