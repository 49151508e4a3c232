use Rattle.picture_text.proofs.Words.{append_assoc, refl, arith}
use Rattle.ttp_base.proofs.Room.{room}
use Rattle.picture_text.proofs.head.put_keep_meaning.Goals as goal

pub put_field-requires : goal.put_field-requires
put_field-requires c = grind (arith, room)

pub put_text-requires : goal.put_text-requires
put_text-requires c = grind (arith, room)

pub put_text-requires-in-No : goal.put_text-requires-in-No
put_text-requires-in-No c = grind (arith, room)

pub returns-in-Yes-clause-short : goal.returns-in-Yes-clause-short
returns-in-Yes-clause-short c = grind (arith, room)

pub returns-in-No-clause-short : goal.returns-in-No-clause-short
returns-in-No-clause-short c = grind (arith, room)

pub returns-in-Yes-clause-text : goal.returns-in-Yes-clause-text
returns-in-Yes-clause-text c =
    rw (c.in-Yes.is, c.put_text.ensures, c.put_field.ensures.text, c.from.ensures) (simp append_assoc refl)
