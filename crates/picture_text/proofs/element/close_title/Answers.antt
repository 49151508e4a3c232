use Rattle.picture_text.proofs.Words.{refl, arith}
use Rattle.ttp_base.proofs.Room.{room}
use Rattle.picture_text.proofs.element.close_title.Goals as goal

pub put_text-requires : goal.put_text-requires
put_text-requires c = grind (arith, room)

pub put_place-requires : goal.put_place-requires
put_place-requires c = grind (arith, room)

pub put_text-requires-2 : goal.put_text-requires-2
put_text-requires-2 c = grind (arith, room)

pub put_place-requires-2 : goal.put_place-requires-2
put_place-requires-2 c = grind (arith, room)

pub put_text-requires-3 : goal.put_text-requires-3
put_text-requires-3 c = grind (arith, room)

pub returns-clause-short : goal.returns-clause-short
returns-clause-short c = grind (arith, room)

pub returns-clause-text : goal.returns-clause-text
returns-clause-text c =
    rw (
      c.put_text-3.ensures,
      c.put_place-2.ensures.text,
      c.put_text-2.ensures,
      c.put_place.ensures.text,
      c.put_text.ensures,
    ) refl
