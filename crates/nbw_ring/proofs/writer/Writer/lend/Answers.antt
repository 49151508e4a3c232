use Rattle.std.proofs.Common.{arith}
use Rattle.nbw_ring.specs.declared.view.View.TheVariants.{Writer}
use Rattle.nbw_ring.specs.Seats.{writing_of}
use Rattle.nbw_ring.proofs.Calls.{at_ring, view_is}
use Rattle.nbw_ring.proofs.Keeps.{lends}
use Rattle.nbw_ring.proofs.writer.Writer.lend.Goals as goal

pub split_seat-seat-requires : goal.split_seat-seat-requires
split_seat-seat-requires c =
    let ring = c.ring.inside in
    let table = ring.table.shared in
    let seat = c.self.inside.seat in
    let at =
    at_ring table.table_id seat.table_id ring.shape (writing_of seat.me.0).shape _ _ c.self.invariant.own
    c.ring.view_is c.deref-ring.ensures in
    let words = c.ring.invariant.2 in (
      at.0,
      omega arith,
      lends table.key seat.id seat.me.0 (writing_of seat.me.0)
          (view_is seat.me (Writer (writing_of seat.me.0)) c.self.invariant.seated) c.self.invariant.closed,
    )
