use Rattle.ttp_base.proofs.Puts.{puts_two}
use Rattle.picture_text.proofs.legend.put_mark_entry.Goals as goal

pub returns : goal.returns
returns g c =
    puts_two
    (rw (c.beside-corner.ensures.x, c.beside-corner.ensures.y, c.entry_corner-at.ensures.x, c.entry_corner-at.ensures.y)
    at c.make_mark.ensures)
    (rw (c.entry_corner-at.ensures.x, c.entry_corner-at.ensures.y) at c.make_text.ensures) c.write.ensures
    c.write-2.ensures
