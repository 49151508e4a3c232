use Rattle.controller.proofs.Words.{◌+◌, IsEnded, IsControllerOf, most_ahead, EndsSlot}
use Rattle.controller.specs.KnownFrames.{AreKnownOf}
use Rattle.controller.proofs.Parts.{ArePassed}
use Rattle.controller.proofs.passes.take_all.Given as goal

abbrev pub invariant-loop-j : goal.invariant-loop-j
invariant-loop-j l = ArePassed
    (λ j old new. IsControllerOf l.list IsEnded (most_ahead (l.medium.slot + 1)) (l.first + j) new.controller
    × EndsSlot l.list l.script l.medium (l.first + j) old.controller new.controller new.outcome)
    l.j l.fn.seats l.seats
    × AreKnownOf l.list l.a l.b l.known
