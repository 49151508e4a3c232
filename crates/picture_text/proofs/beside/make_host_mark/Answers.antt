use Rattle.picture_text.proofs.Words.{◌≡◌, refl, arith}
use Rattle.picture_text.proofs.beside.make_host_mark.Goals as goal

pub returns-in-Write : goal.returns-in-Write
returns-in-Write c =
    let x : c.beside-at.result.x ≡ c.corner-cell.result.x = omega arith in
    rw (
      c.make_mark_of.ensures,
      x,
      c.beside-at.ensures.y,
      c.corner-cell.ensures.x,
      c.corner-cell.ensures.y,
      c.host_of.ensures,
      c.in-Write.is,
    ) refl

pub returns-in-Status : goal.returns-in-Status
returns-in-Status c =
    let y : c.beside-at-in-Status.result.y ≡ c.corner-cell.result.y = omega arith in
    rw (
      c.make_mark_of-in-Status.ensures,
      c.beside-at-in-Status.ensures.x,
      y,
      c.corner-cell.ensures.x,
      c.corner-cell.ensures.y,
      c.host_of.ensures,
      c.in-Read.is,
      c.in-Status.is,
    ) refl

pub returns-in-Node : goal.returns-in-Node
returns-in-Node c =
    rw (
      c.make_mark_of-in-Node.ensures,
      c.beside-at-in-Node.ensures.x,
      c.beside-at-in-Node.ensures.y,
      c.corner-cell.ensures.x,
      c.corner-cell.ensures.y,
      c.host_of.ensures,
      c.in-Read.is,
      c.in-Node.is,
    ) refl
