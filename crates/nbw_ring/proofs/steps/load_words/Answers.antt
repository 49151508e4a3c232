use Rattle.std.proofs.Common.{◌+◌, ◌<◌, ◌∙◌}
use Rattle.nbw_ring.specs.Seats.{reading_of}
use Rattle.nbw_ring.proofs.Calls.{load_next, word_inside}
use Rattle.nbw_ring.proofs.steps.load_words.Goals as goal

pub load-word-requires : goal.load-word-requires
load-word-requires g c =
    let shape = c.args.shape in
    let inside : c.loop-k.k < shape.width = c.loop-k-test.true in (
      c.loop-k.invariant.0 ∙ c.requires.seat,
      word_inside shape c.args.cells.now.key c.args.cells.now.table_id c.args.number c.start_of-start.result c.loop-k.k
          c.requires.table c.start_of-start.ensures inside,
      load_next shape c.args.cells.now.key c.args.cells.now.table_id.slots c.loop-k.seat.id c.loop-k.seat.me
          (record (reading_of c.args.seat.now.me.0) {
            words = (reading_of c.loop-k.seat.me.0).words;
            steps = (reading_of c.args.seat.now.me.0).steps + c.loop-k.k;
          })
          c.args.number c.start_of-start.result c.loop-k.k c.requires.table.1 c.loop-k.invariant.1 c.requires.begun.half
          c.loop-k.invariant.2 inside c.start_of-start.ensures,
    )
