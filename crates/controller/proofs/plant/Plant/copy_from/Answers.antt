use Rattle.controller.proofs.Words.{length, ap, sym, ◌∙◌, arith, slice_get, Medl, with_items_is}
use Rattle.controller.proofs.Parts.{each-of}
use Rattle.controller.proofs.plant.Plant.copy_from.Goals as goal

pub copy_seats-requires-clause-count : goal.copy_seats-requires-clause-count
copy_seats-requires-clause-count c =
    let same = rw (← c.self.view_is, ← c.other.view_is) at c.requires in
    ap length c.deref_mut.ensures.value ∙ c.self.invariant.count ∙ ap (λ (l : Medl). length l.slots) (sym same)
    ∙ sym c.other.invariant.count ∙ ap length (sym c.deref.ensures.value)

pub copy_seats-requires-clause-lists : goal.copy_seats-requires-clause-lists
copy_seats-requires-clause-lists c k one other here there =
    let same = rw (← c.self.view_is, ← c.other.view_is) at c.requires in
    (each-of c.other.invariant.are k (ap (λ xs. slice_get xs k) (sym c.deref.ensures.value) ∙ there)).list ∙ same
    ∙ sym (each-of c.self.invariant.are k (ap (λ xs. slice_get xs k) (sym c.deref_mut.ensures.value) ∙ here)).list

pub invariant_of-self : goal.invariant_of-self
invariant_of-self c =
    let same = rw (← c.self.view_is, ← c.other.view_is) at c.requires in
    let seats = with_items_is c.self.inside.seats c.copy_seats.new.to
    (omega (arith, c.copy_seats.auto.to, c.deref_mut.ensures.len)) ∙ c.copy_seats.ensures ∙ c.deref.ensures.value in
    rw (seats, ← same) c.other.invariant

pub returns : goal.returns
returns c =
    let same = rw (← c.self.view_is, ← c.other.view_is) at c.requires in
    let seats = with_items_is c.self.inside.seats c.copy_seats.new.to
    (omega (arith, c.copy_seats.auto.to, c.deref_mut.ensures.len)) ∙ c.copy_seats.ensures ∙ c.deref.ensures.value in
    rw (seats, c.copy_from.ensures, ← same) c.other.view_is
