use Rattle.picture_text.proofs.Words.{refl, arith}
use Rattle.ttp_base.proofs.Room.{room}
use Rattle.picture_text.proofs.cells.make_node_cell.Goals as goal

pub put_class-requires : goal.put_class-requires
put_class-requires c = grind (arith, room)

pub open_title-requires : goal.open_title-requires
open_title-requires c = grind (arith, room)

pub put_node_text-requires : goal.put_node_text-requires
put_node_text-requires c = grind (arith, room)

pub close_title-requires : goal.close_title-requires
close_title-requires c = grind (arith, room)

pub put_text-requires : goal.put_text-requires
put_text-requires c = grind (arith, room)

pub close_cell-requires : goal.close_cell-requires
close_cell-requires c = grind (arith, room)

pub returns : goal.returns
returns c =
    rw (
      c.close_cell.ensures,
      c.put_text.ensures,
      c.letter.ensures.text,
      c.close_title.ensures.text,
      c.corner.ensures.x,
      c.corner.ensures.y,
      c.put_node_text.ensures.text,
      c.open_title.ensures.text,
      c.put_class.ensures.text,
      c.open_cell.ensures,
      c.node_at-node.ensures,
    ) refl
