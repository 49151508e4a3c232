use Rattle.controller.proofs.Words.{◌≡◌, length, Some, ap, refl, subst, arith, slice_get, slice_get_read}
use Rattle.controller.proofs.Words.{IsControllerOf, IsEnded, most_ahead}
use Rattle.controller.proofs.Parts.{each-of}
use Rattle.controller.proofs.plant.Plant.seat.Goals as goal

-- the seat that is asked
asked : (c : goal.After-index) → slice_get c.self.inside.seats.items c.args.k ≡ Some c.index.result.now
asked c =
    let count = ap (λ p. length p.list.slots) c.self.view_is in
    slice_get_read c.self.inside.seats.items _ c.args.k c.index.result.now refl
    (omega (arith, c.requires, count, c.self.invariant.count)) c.index.ensures

pub returns-clause-there : goal.returns-clause-there
returns-clause-there c = subst (λ p. slice_get p.seats c.args.k ≡ Some c.index.result.now) c.self.view_is (asked c)

pub returns-clause-is : goal.returns-clause-is
returns-clause-is c =
    subst (λ p. IsControllerOf p.list IsEnded (most_ahead p.slot) c.args.k c.index.result.now.controller) c.self.view_is
    (each-of c.self.invariant.are c.args.k (asked c))
