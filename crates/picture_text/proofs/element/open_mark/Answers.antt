use Rattle.picture_text.proofs.Words.{arith, refl}
use Rattle.ttp_base.proofs.Room.{room}
use Rattle.picture_text.proofs.element.open_mark.Goals as goal

pub put_text-requires : goal.put_text-requires
put_text-requires c = grind (arith, room)

pub put_text-requires-2 : goal.put_text-requires-2
put_text-requires-2 c = grind (arith, room)

pub put_field-requires : goal.put_field-requires
put_field-requires c = grind (arith, room)

pub put_field-requires-2 : goal.put_field-requires-2
put_field-requires-2 c = grind (arith, room)

pub put_text-requires-3 : goal.put_text-requires-3
put_text-requires-3 c = grind (arith, room)

pub put_text-requires-4 : goal.put_text-requires-4
put_text-requires-4 c = grind (arith, room)

pub returns-clause-short : goal.returns-clause-short
returns-clause-short c = grind (arith, room)

pub returns-clause-text : goal.returns-clause-text
returns-clause-text c =
    rw (
      c.put_text-4.ensures,
      c.put_text-3.ensures,
      c.put_field-2.ensures.text,
      c.put_field.ensures.text,
      c.put_text-2.ensures,
      c.put_text.ensures,
      c.clear.ensures,
    ) refl
