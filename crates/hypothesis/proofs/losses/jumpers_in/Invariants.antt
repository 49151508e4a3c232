use Rattle.hypothesis.proofs.Words.{◌≡◌, below, jumps_now}
use Rattle.std.specs.Prelude.{filter}
use Rattle.hypothesis.proofs.losses.jumpers_in.Given as goal

-- those of the nodes so far
abbrev pub invariant-loop-node : goal.invariant-loop-node
invariant-loop-node l = l.jumpers ≡ filter (jumps_now l.script l.faulty l.slot) (below l.node)
