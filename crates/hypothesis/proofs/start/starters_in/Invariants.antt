use Rattle.hypothesis.proofs.Words.{◌≡◌, below, starts_in}
use Rattle.std.specs.Prelude.{filter}
use Rattle.hypothesis.proofs.start.starters_in.Given as goal

-- those of the nodes so far
abbrev pub invariant-loop-node : goal.invariant-loop-node
invariant-loop-node l = l.starters ≡ filter (starts_in l.list l.script l.slot) (below l.node)
