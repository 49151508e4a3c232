use Rattle.picture_text.proofs.Words.{◌+◌, [], ◌∷◌, ◌++◌, codes, members_title, place_attributes, count_of}
use Rattle.ttp_base.proofs.Gathered.{gather-behind}
use Rattle.picture_text.proofs.members_cell.make_agreed.Goals as goal

pub returns-clause-text : goal.returns-clause-text
returns-clause-text c =
    let at = c.args.at in
    rw (
      c.put_bytes.ensures,
      c.bytes.ensures,
      c.close_cell.ensures,
      c.put_count.ensures.text,
      c.nodes.ensures.value,
      c.close_title.ensures.text,
      c.clear.ensures,
      c.open_members.ensures.text,
    )
    (gather-behind (codes "<g class=\"agree\"><title>" ++ members_title c.args.head.now c.args.slot c.args.shown.now)
    (codes "</title><rect" ∷ place_attributes at.x at.y ∷ codes " width=\"19\" height=\"19\"/><text"
    ∷ place_attributes (at.x + 9) (at.y + 14) ∷ codes ">" ∷ count_of c.args.shown.now.nodes ∷ codes "</text></g>\n" ∷ []))
