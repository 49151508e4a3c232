use Rattle.std.proofs.Common.{Some, ap}
use Rattle.list_places.proofs.Marking.{slot_found, slot_missing}
use Rattle.list_places.proofs.places.left_at_slot.Goals as goal

pub returns-in-Some-get : goal.returns-in-Some-get
returns-in-Some-get c m are =
    let look = rw c.as_slice.ensures.value at c.in-Some-get.ensures.lookup in
    let (place, there, is) =
    slot_found c.args.marks.now.slots.items m.slots c.in-Some.k c.in-Some-get.slot.now are.slots look.3.0 look.1 in
    rw (c.in-Some.is, there) (ap Some is.left)

pub returns-in-None-get : goal.returns-in-None-get
returns-in-None-get c m are =
    let look = rw c.as_slice.ensures.value at c.in-None-get.ensures.lookup in
    rw (c.in-Some.is, slot_missing c.args.marks.now.slots.items m.slots c.in-Some.k are.slots look.3)
