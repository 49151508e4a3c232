use Rattle.controller.proofs.Words.{◌+◌, Chosen, IsBegun, IsPayloadBefore, IsPayloadFor, IsIncidentsOf, IsControllerOf}
use Rattle.controller.proofs.Words.{most_ahead_in, BeginsSlot}
use Rattle.controller.proofs.Parts.{ArePassed}
use Rattle.controller.proofs.passes.begin_all.Given as goal

abbrev pub invariant-loop-j : goal.invariant-loop-j
invariant-loop-j l = ArePassed
    (λ j old new. IsIncidentsOf l.script l.slot (l.first + j) new.incidents
    × IsControllerOf l.list IsBegun (most_ahead_in l.slot) (l.first + j) new.controller
    × BeginsSlot l.list l.script l.slot (l.first + j) old.controller new.controller
    × ((chosen : Chosen) → IsPayloadBefore l.script l.slot chosen (l.first + j) old.controller
    → IsPayloadFor new.controller chosen))
    l.j l.fn.seats l.seats
