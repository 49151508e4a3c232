use Rattle.std.proofs.Common.{◌≡◌, [], ◌++◌, ◌+◌, length, vec_len, vec_capacity}
use Rattle.nbw_ring.specs.declared.view.View.TheVariants.{Reader}
use Rattle.nbw_ring.specs.Seats.{reading_of}
use Rattle.nbw_ring.proofs.steps.load_words.Given as goal

abbrev pub invariant-loop-k : goal.invariant-loop-k
invariant-loop-k g l =
    (l.seat.table_id ≡ l.initial.seat.table_id)
    × (l.seat.me ≡ (
      Reader (record (reading_of l.initial.seat.me.0) {
        words = (reading_of l.seat.me.0).words;
        steps = (reading_of l.initial.seat.me.0).steps + l.k;
      }),
      [],
    ))
    × (length (reading_of l.seat.me.0).words ≡ l.k)
    × (l.words.items ≡ l.initial.words.items ++ (reading_of l.seat.me.0).words)
    × (vec_capacity l.words ≡ vec_capacity l.initial.words)
    × (vec_len l.words ≡ vec_len l.initial.words + l.k)
