use Rattle.picture_text.proofs.Words.{refl, arith}
use Rattle.ttp_base.proofs.Room.{room}
use Rattle.picture_text.proofs.beside.make_why_box.Goals as goal

pub put_text-requires : goal.put_text-requires
put_text-requires c = grind (arith, room)

pub put_place-requires : goal.put_place-requires
put_place-requires c = grind (arith, room)

pub put_field-requires : goal.put_field-requires
put_field-requires c = grind (arith, room)

pub put_text-requires-2 : goal.put_text-requires-2
put_text-requires-2 c = grind (arith, room)

pub returns : goal.returns
returns c =
    rw (
      c.put_text-2.ensures,
      c.put_field.ensures.text,
      c.put_place.ensures.text,
      c.put_text.ensures,
      c.clear.ensures,
      c.word_text.ensures.text,
    ) refl
