use Rattle.std.proofs.Common.{◌≡◌, ◌+◌, [], take}
use Rattle.nbw_ring.specs.declared.view.View.TheVariants.{Writer}
use Rattle.nbw_ring.specs.Seats.{writing_of}
use Rattle.nbw_ring.proofs.steps.put_words.Given as goal

abbrev pub invariant-loop-k : goal.invariant-loop-k
invariant-loop-k g l =
    (l.seat.table_id ≡ l.initial.seat.table_id)
    × (l.seat.me ≡ (
      Writer (record (writing_of l.initial.seat.me.0) {
        put = take l.k l.words;
        steps = (writing_of l.initial.seat.me.0).steps + l.k;
      }),
      [],
    ))
