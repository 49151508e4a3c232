use Rattle.two_faced.proofs.Words.{◌≡◌, zeros_world, seen_in}
use Rattle.controller.specs.ZerosRun.{RunStandsAfter}
use Rattle.two_faced.proofs.seen.seen_in.Given as goal

-- the run stands for the world of the slots so far, and this was seen in it
abbrev pub invariant-loop-slot : goal.invariant-loop-slot
invariant-loop-slot l =
    RunStandsAfter l.run l.list l.script l.slot
    × (l.seen ≡ seen_in l.list l.script l.node l.start (zeros_world l.list l.script l.slot))
