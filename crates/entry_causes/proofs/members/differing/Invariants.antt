use Rattle.std.proofs.Common.{◌≡◌, ◌&&◌, ltb}
use Rattle.std.specs.Prelude.{filter}
use Rattle.causes.specs.Members.{is_one_of}
use Rattle.ttp_base.specs.NodeSet.{below, has_node}
use Rattle.entry_causes.proofs.members.differing.Given as goal

-- those of the first nodes
abbrev pub invariant-loop-node : goal.invariant-loop-node
invariant-loop-node l =
    l.differing ≡ filter (λ j. ltb j l.node && is_one_of (has_node l.a j) (has_node l.b j)) (below l.nodes)
