use Rattle.hypothesis.proofs.Words.{◌≡◌, below, is_other}
use Rattle.std.specs.Prelude.{filter}
use Rattle.hypothesis.proofs.losses.others_in.Given as goal

-- those of the nodes so far
abbrev pub invariant-loop-node : goal.invariant-loop-node
invariant-loop-node l = l.others ≡ filter (is_other l.script l.faulty l.sender l.slot) (below l.node)
