use Rattle.std.proofs.Common.{◌≡◌, ◌+◌, ◌-◌, ◌<◌, length, refl, arith}
use Rattle.std.proofs.lemmas.Grind.{common_steps}
use Rattle.std.proofs.lemmas.Option.{slice_get_read}
use Rattle.list_places.proofs.Marking.{if_ok, empty_stays, last_noted}
use Rattle.list_places.proofs.marks.note_in_slot.Goals as goal

pub returns-then-is_empty : goal.returns-then-is_empty
returns-then-is_empty c places are =
    let none : length c.args.slots.now.items ≡ 0 = grind (arith, common_steps) in
    empty_stays c.args.slots.now.items places c.args.key.now c.args.left none are

pub returns : goal.returns
returns c =
    let slots = c.args.slots.now.items in
    let old = c.index_mut.result.now in
    let n = c.len-last.result - 1 in
    let count : length slots ≡ n + 1 = grind (arith, common_steps) in
    let within : n < length slots = omega arith in
    if_ok _ _ c.note.result c.note.ensures (λ x noted places are.
    last_noted slots places n old _ c.args.key.now c.args.left are count
    (slice_get_read slots _ n old refl within c.index_mut.ensures.value) refl noted)
