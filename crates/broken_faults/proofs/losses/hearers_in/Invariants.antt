use Rattle.std.proofs.Common.{◌≡◌, ◌&&◌, not}
use Rattle.std.specs.Prelude.{filter}
use Rattle.ttp_base.specs.NodeSet.{below}
use Rattle.ttp_world.specs.Hypothesis.{loses}
use Rattle.hypothesis.specs.Standing.{told_start}
use Rattle.broken_faults.specs.Faults.{is_to_hear, faulty_in}
use Rattle.broken_faults.proofs.losses.hearers_in.Given as goal

-- those of the nodes so far
abbrev pub invariant-loop-node : goal.invariant-loop-node
invariant-loop-node l =
    l.heard ≡ filter (λ r. is_to_hear l.list l.script
    (faulty_in l.list l.script (told_start l.start) l.slot) l.sender l.slot r
    && not (loses l.script l.sender l.slot r)) (below l.node)
