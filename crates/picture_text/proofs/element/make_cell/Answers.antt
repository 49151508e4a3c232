use Rattle.picture_text.proofs.Words.{refl, arith}
use Rattle.ttp_base.proofs.Room.{room}
use Rattle.picture_text.proofs.element.make_cell.Goals as goal

pub put_text-requires : goal.put_text-requires
put_text-requires c = grind (arith, room)

pub open_title-requires : goal.open_title-requires
open_title-requires c = grind (arith, room)

pub put_text-requires-2 : goal.put_text-requires-2
put_text-requires-2 c = grind (arith, room)

pub close_title-requires : goal.close_title-requires
close_title-requires c = grind (arith, room)

pub put_text-requires-3 : goal.put_text-requires-3
put_text-requires-3 c = grind (arith, room)

pub close_cell-requires : goal.close_cell-requires
close_cell-requires c = grind (arith, room)

pub returns : goal.returns
returns c =
    rw (
      c.close_cell.ensures,
      c.put_text-3.ensures,
      c.close_title.ensures.text,
      c.put_text-2.ensures,
      c.open_title.ensures.text,
      c.put_text.ensures,
      c.open_cell.ensures,
    ) refl
