use Rattle.hypothesis.proofs.Words.{◌≡◌, ◌&&◌, not, below, has_node, is_armed}
use Rattle.std.specs.Prelude.{filter}
use Rattle.hypothesis.proofs.forgiven.stayed_in.Given as goal

-- those of the nodes so far
abbrev pub invariant-loop-node : goal.invariant-loop-node
invariant-loop-node l =
    l.stayed ≡ filter (λ k. not (has_node l.then k && is_armed l.script k l.slot) && has_node l.faulty k) (below l.node)
