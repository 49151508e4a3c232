use Rattle.controller.proofs.Words.{◌≡◌, Some, slice_get}
use Rattle.controller.proofs.Parts.{ArePassed}
use Rattle.controller.proofs.seat.copy_seats.Given as goal

abbrev pub invariant-loop-k : goal.invariant-loop-k
invariant-loop-k l = ArePassed (λ j before after. slice_get l.from j ≡ Some after) l.k l.fn.to l.to
