use Rattle.std.proofs.Common.{◌≡◌, ◌+◌, length, refl, sym, ap, ◌∙◌, arith}
use Rattle.nbw_ring.specs.declared.view.Shape.{Shape}
use Rattle.nbw_ring.specs.declared.view.Writing.{Writing}
use Rattle.nbw_ring.specs.declared.view.View.TheVariants.{Writer}
use Rattle.nbw_ring.specs.Seats.{writing_of}
use Rattle.nbw_ring.specs.States.{WriterState}
use Rattle.nbw_ring.specs.Steps.{with_open}
use Rattle.nbw_ring.proofs.Calls.{filled_next, at_ring, view_is}
use Rattle.nbw_ring.proofs.Keeps.{begins, ends}
use Rattle.nbw_ring.proofs.writer.Writer.write.Goals as goal

pub store-requires : goal.store-requires
store-requires g c =
    let ring = c.ring.inside in
    let table = ring.table.shared in
    let seat = c.self.inside.seat in
    let w : Writing = writing_of seat.me.0 in
    let at =
    at_ring table.table_id seat.table_id ring.shape (writing_of seat.me.0).shape _ _ c.self.invariant.own
    c.ring.view_is c.deref-ring.ensures in
    let words = c.ring.invariant.2 in
    let number : c.self.inside.number + 1 ≡ length w.messages = c.self.invariant.newest in (
      at.0,
      omega arith,
      begins table.key table.table_id.slots seat.id seat.me w _
          (view_is seat.me (Writer w) c.self.invariant.seated) c.self.invariant.closed (omega arith),
    )

-- The counter tells the new number only where each word of the buffer was put. So this is asked of the view that the
-- loop over the words leaves: it has all of them, and its write is open still.
pub store-requires-2 : goal.store-requires-2
store-requires-2 g c =
    let ring = c.ring.inside in
    let table = ring.table.shared in
    let seat = c.self.inside.seat in
    let w : Writing = writing_of seat.me.0 in
    let at =
    at_ring table.table_id seat.table_id ring.shape (writing_of seat.me.0).shape _ _ c.self.invariant.own
    c.ring.view_is c.deref-ring.ensures in
    let words = c.ring.invariant.2 in
    let number : c.self.inside.number + 1 ≡ length w.messages = c.self.invariant.newest in
    let filled =
    filled_next seat.me c.store.new.seat.me c.put_words.new.seat.me w c.args.words.now c.self.invariant.seated
    c.store.ensures.2 c.put_words.ensures.seat in
    let wide : length c.args.words.now ≡ table.key.width =
    c.requires.width
    ∙ (ap (λ (z : WriterState). z.ring.shape.width) (sym c.self.view_is)
    ∙ ap (λ (z : Shape). z.width) (at.1 ∙ sym c.ring.invariant.1)) in
    let same : length c.args.self.now.messages ≡ length w.messages =
    ap (λ z. length z.messages) (sym c.self.view_is) in
    let room = c.requires.room in (
      c.put_words.ensures.table ∙ (c.store.ensures.0 ∙ at.0),
      omega arith,
      ends table.key table.table_id.slots c.put_words.new.seat.id c.put_words.new.seat.me
          (record (with_open w) { put = c.args.words.now; steps = w.steps + 1 + length c.args.words.now }) _
          (view_is c.put_words.new.seat.me _ filled) refl wide
          (omega arith) (omega arith),
    )
