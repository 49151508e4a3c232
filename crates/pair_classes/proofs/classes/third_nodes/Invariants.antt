use Rattle.std.proofs.Common.{◌≡◌, ◌&&◌, not}
use Rattle.std.specs.Prelude.{filter, ◌==◌}
use Rattle.ttp_base.specs.NodeSet.{below, has_node}
use Rattle.fault_pairs.specs.Classes.{leaves_by_both}
use Rattle.pair_classes.proofs.classes.third_nodes.Given as goal

-- those so far
abbrev pub invariant-loop-node : goal.invariant-loop-node
invariant-loop-node l = l.third
    ≡ filter (λ k. has_node l.harms.both.left k && ((not (k == l.first) && not (k == l.second))
    && leaves_by_both l.harms.both l.harms.one l.harms.two k)) (below l.node)
