-- How a reader keeps the pairs that it got.
use Rattle.std.specs.Prelude.{◌≡◌, ◌+◌, ◌*◌, ◌≤◌, All, length, vec_len, vec_capacity}
use Rattle.std.specs.Arc.{arc_value}
use Rattle.nbw_ring.specs.declared.reader.Reader.TheInside.{Inside}
use Rattle.nbw_ring.specs.Pairs.{pair_numbers, words_in}
use Rattle.nbw_ring.specs.Seats.{reading_of, IsReaderSeat, ring_of}

-- the reader sits at the ring that it holds, with the numbers and the words of the pairs that it got, and room for more
pub record IsShelved (r : Inside) : Type 0 where
  pub own : ring_of r.seat.table_id (reading_of r.seat.me.0).shape ≡ arc_value r.ring
  pub seated : IsReaderSeat r.seat
  pub width : r.width ≡ (reading_of r.seat.me.0).shape.width
  pub wide : All (λ p. length p.words ≡ r.width) (reading_of r.seat.me.0).got
  pub numbers : r.numbers.items ≡ pair_numbers (reading_of r.seat.me.0).got
  pub words : r.words.items ≡ words_in (reading_of r.seat.me.0).got
  pub room : vec_len r.numbers + r.spare ≤ vec_capacity r.numbers
  pub word_room : vec_len r.words + r.spare * r.width ≤ vec_capacity r.words
