use Rattle.std.proofs.Common.{ap, ◌∙◌, subst}
use Rattle.nbw_ring.specs.declared.view.Writing.{Writing}
use Rattle.nbw_ring.specs.declared.view.Reading.{Reading}
use Rattle.nbw_ring.specs.declared.view.View.TheVariants.{Writer, Reader}
use Rattle.nbw_ring.specs.Seats.{writing_of, reading_of}
use Rattle.nbw_ring.specs.Steps.{with_settled, Confirms}
use Rattle.nbw_ring.proofs.Calls.{view_is, joined_next, told}
use Rattle.nbw_ring.proofs.Keeps.{joins, settle_loads}
use Rattle.nbw_ring.proofs.steps.join_reader.Goals as goal

pub join_seat-requires : goal.join_seat-requires
join_seat-requires c =
    let seat = c.args.writer.now in
    let other = c.args.reader in
    let w : Writing = writing_of seat.me.0 in
    let y : Reading = reading_of other.me.0 in (
      c.requires.writer,
      c.requires.reader,
      ap (λ m. m.1) c.requires.reads,
      c.requires.words,
      joins c.args.cells.now.key seat.id seat.me.0 w other.id other.me.0 y
          (view_is seat.me (Writer w) c.requires.writes)
          (view_is other.me (Reader y) c.requires.reads),
    )

pub load-requires : goal.load-requires
load-requires c =
    let cells = c.args.cells.now in
    let after = c.join_seat.new.seat in
    let w : Writing = writing_of c.args.writer.now.me.0 in
    let y : Reading = reading_of c.args.reader.me.0 in
    let joined =
    joined_next c.args.writer.now.me c.args.reader.me after.me w y c.requires.writes c.requires.reads
    c.join_seat.ensures.2 in (
      c.join_seat.ensures.0 ∙ c.requires.writer,
      c.requires.words,
      settle_loads cells.key cells.table_id.slots after.id after.me (with_settled y w)
          (view_is after.me (Writer (with_settled y w)) joined),
    )

pub returns-clause-whole : goal.returns-clause-whole
returns-clause-whole c =
    let w : Writing = writing_of c.args.writer.now.me.0 in
    let y : Reading = reading_of c.args.reader.me.0 in
    let joined =
    joined_next c.args.writer.now.me c.args.reader.me c.join_seat.new.seat.me w y c.requires.writes c.requires.reads
    c.join_seat.ensures.2 in
    let confirmed =
    subst (Confirms c.load.result)
    (view_is c.join_seat.new.seat.me (Writer (with_settled y w)) joined) c.load.ensures.2.1 in
    (told c.load.result w y c.requires.closed confirmed).0

pub returns-clause-seen : goal.returns-clause-seen
returns-clause-seen c =
    let w : Writing = writing_of c.args.writer.now.me.0 in
    let y : Reading = reading_of c.args.reader.me.0 in
    let joined =
    joined_next c.args.writer.now.me c.args.reader.me c.join_seat.new.seat.me w y c.requires.writes c.requires.reads
    c.join_seat.ensures.2 in
    let confirmed =
    subst (Confirms c.load.result)
    (view_is c.join_seat.new.seat.me (Writer (with_settled y w)) joined) c.load.ensures.2.1 in
    (told c.load.result w y c.requires.closed confirmed).1
