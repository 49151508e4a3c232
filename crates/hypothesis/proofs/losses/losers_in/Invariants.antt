use Rattle.hypothesis.proofs.Words.{◌≡◌, ◌&&◌, below, is_other, loses}
use Rattle.std.specs.Prelude.{filter}
use Rattle.hypothesis.proofs.losses.losers_in.Given as goal

-- those of the nodes so far
abbrev pub invariant-loop-node : goal.invariant-loop-node
invariant-loop-node l =
    l.lost ≡ filter (λ k. is_other l.script l.faulty l.sender l.slot k && loses l.script l.sender l.slot k)
    (below l.node)
