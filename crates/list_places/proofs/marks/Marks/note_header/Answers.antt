use Rattle.std.proofs.Common.{true, false, refl}
use Rattle.toml_parser.specs.Reading.{key_view}
use Rattle.list_places.specs.Marks.{behind_header, with_top}
use Rattle.list_places.proofs.Marking.{if_ok}
use Rattle.list_places.proofs.Turning.{header_of_slot, header_of_none}
use Rattle.list_places.proofs.marks.Marks.note_header.Goals as goal

pub returns-then-begins_slot : goal.returns-then-begins_slot
returns-then-begins_slot c =
    let key = key_view c.args.key.now in
    if_ok _ _ c.note_slot.result c.note_slot.ensures (λ x step m are.
    rw (header_of_slot m c.args.left key c.args.begins_slot c.if-begins_slot.true)
    (step (with_top (behind_header m true) c.args.left key) (record {
      top = rw c.first_part.ensures at (c.in_ok-note.ensures m.top are.top);
      slots = are.slots;
      has_headers = refl;
      is_in_slot = c.if-begins_slot.true;
    })))

pub returns-else-begins_slot : goal.returns-else-begins_slot
returns-else-begins_slot c =
    let key = key_view c.args.key.now in
    if_ok _ _ c.note_by_header.result c.note_by_header.ensures (λ x step m are.
    rw (header_of_none m c.args.left key c.args.begins_slot c.if-begins_slot.false)
    (step (with_top (behind_header m false) c.args.left key) (record {
      top = rw c.first_part.ensures at (c.in_ok-note.ensures m.top are.top);
      slots = are.slots;
      has_headers = refl;
      is_in_slot = c.if-begins_slot.false;
    })))
