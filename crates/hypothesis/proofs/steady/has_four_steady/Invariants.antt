use Rattle.hypothesis.proofs.Words.{◌≡◌, ◌<◌, length, below, is_steady}
use Rattle.std.specs.Prelude.{filter}
use Rattle.hypothesis.proofs.steady.has_four_steady.Given as goal

-- those of the nodes so far, fewer than four
abbrev pub invariant-loop-node : goal.invariant-loop-node
invariant-loop-node l =
    (l.steady ≡ filter (is_steady l.list l.script l.faulty) (below l.node)) × (length l.steady < 4)
