use Rattle.std.proofs.Common.{◌<◌, ◌∙◌, length, arith}
use Rattle.nbw_ring.specs.Seats.{writing_of}
use Rattle.nbw_ring.proofs.Calls.{put_next, word_inside}
use Rattle.nbw_ring.proofs.steps.put_words.Goals as goal

pub store-requires : goal.store-requires
store-requires g c =
    let shape = c.args.shape in
    let inside : c.loop-k.k < length c.args.words.now = c.loop-k-test.true in
    let wide = c.requires.width in (
      c.loop-k.invariant.0 ∙ c.requires.seat,
      word_inside shape c.args.cells.now.key c.args.cells.now.table_id c.args.number c.start_of-start.result c.loop-k.k
          c.requires.table c.start_of-start.ensures (omega arith),
      put_next shape c.args.cells.now.key c.args.cells.now.table_id.slots c.loop-k.seat.id c.loop-k.seat.me
          (writing_of c.args.seat.now.me.0) c.args.words.now c.args.number c.start_of-start.result c.loop-k.k _
          c.requires.table.1 c.loop-k.invariant.1 c.requires.open.opened c.requires.open.next wide inside
          c.start_of-start.ensures,
    )
