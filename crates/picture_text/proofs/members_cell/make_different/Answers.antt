use Rattle.picture_text.proofs.Words.{◌+◌, [], ◌∷◌, ◌++◌, codes, members_title, place_attributes, arith}
use Rattle.ttp_base.proofs.Gathered.{gather-behind}
use Rattle.ttp_base.proofs.Room.{room}
use Rattle.picture_text.proofs.members_cell.make_different.Goals as goal

pub close_title-requires : goal.close_title-requires
close_title-requires c = grind (arith, room)

pub put_text-requires : goal.put_text-requires
put_text-requires c = grind (arith, room)

pub close_cell-requires : goal.close_cell-requires
close_cell-requires c = grind (arith, room)

pub put_bytes-requires : goal.put_bytes-requires
put_bytes-requires c = grind (arith, room)

pub returns-clause-text : goal.returns-clause-text
returns-clause-text c =
    let at = c.args.at in
    rw (
      c.put_bytes.ensures,
      c.bytes.ensures,
      c.close_cell.ensures,
      c.put_text.ensures,
      c.close_title.ensures.text,
      c.clear.ensures,
      c.open_members.ensures.text,
    )
    (gather-behind (codes "<g class=\"differ\"><title>" ++ members_title c.args.head.now c.args.slot c.args.shown.now)
    (codes "</title><rect" ∷ place_attributes at.x at.y ∷ codes " width=\"19\" height=\"19\"/><text"
    ∷ place_attributes (at.x + 9) (at.y + 14) ∷ codes ">" ∷ codes "!" ∷ codes "</text></g>\n" ∷ []))
