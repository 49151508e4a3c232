-- What contracts see of the fields of a ring, of a writer and of a reader, and what is true of those fields.
use Rattle.std.specs.Prelude.{◌≡◌, ℕ, ◌+◌, ◌*◌, ◌/◌, ◌<◌, ◌≤◌, true, false, [], length}
use Rattle.atomic_table.specs.Seated.{TableId}
use Rattle.atomic_table.specs.declared.shared.Seat.{Seat}
use Rattle.nbw_ring.specs.declared.view.Shape.{Shape}
use Rattle.nbw_ring.specs.declared.view.Writing.{Writing}
use Rattle.nbw_ring.specs.declared.view.Reading.{Reading}
use Rattle.nbw_ring.specs.declared.view.View.{View}
use Rattle.nbw_ring.specs.declared.view.View.TheVariants.{Writer, Reader, Spent}
use Rattle.nbw_ring.specs.States.{RingState, WriterState, ReaderState}

-- the shape that is read of a value that has none
abbrev pub no_shape : Shape
no_shape = record { width = 0; buffers = 0 }

-- what is read of a value that is no writer
abbrev pub no_writing : Writing
no_writing = record { shape = no_shape; messages = []; is_open = false; put = []; joined = []; steps = 0 }

-- what is read of a value that is no reader
abbrev pub no_reading : Reading
no_reading = record { shape = no_shape; floor = 0; seen = 0; first = 0; tries = 0; words = []; got = []; steps = 0 }

-- what the writer knows
abbrev pub writing_of : View → Writing
writing_of (Writer w) = w
writing_of (Reader v) = no_writing
writing_of Spent = no_writing

-- what a reader knows
abbrev pub reading_of : View → Reading
reading_of (Writer w) = no_reading
reading_of (Reader v) = v
reading_of Spent = no_reading

-- the seat of a thread at the table of a ring
abbrev pub RingSeat : Type 0
RingSeat = Seat (Unit {0}) View

-- the seat is the writer's, or a reader's, and holds no slot
abbrev pub IsWriterSeat : RingSeat → Type 0
IsWriterSeat seat = seat.me ≡ (Writer (writing_of seat.me.0), [])

abbrev pub IsReaderSeat : RingSeat → Type 0
IsReaderSeat seat = seat.me ≡ (Reader (reading_of seat.me.0), [])

-- the ring of a table
abbrev pub ring_of : TableId → Shape → RingState
ring_of id shape = record { id = id; shape = shape }

-- what contracts see of the writer at a seat, and of a reader with room for `spare` messages more
abbrev pub writer_state : RingSeat → WriterState
writer_state seat = let w : Writing = writing_of seat.me.0 in record {
  ring = ring_of seat.table_id w.shape;
  messages = w.messages;
  joined = w.joined;
  steps = w.steps;
}

abbrev pub reader_state : RingSeat → ℕ → ReaderState
reader_state seat spare = let v : Reading = reading_of seat.me.0 in record {
  ring = ring_of seat.table_id v.shape;
  floor = v.floor;
  seen = v.seen;
  first = v.first;
  tries = v.tries;
  got = v.got;
  steps = v.steps;
  spare = spare;
}

-- the widths and numbers of buffers of a ring
abbrev pub IsShape : Shape → Type 0
IsShape shape = ((0 < shape.width) × (shape.width ≤ 32)) × ((0 < shape.buffers) × (shape.buffers ≤ 16))

-- the words of a table are those of a ring of this shape
abbrev pub IsTableOf : Shape → Shape → TableId → Type 0
IsTableOf shape key id = IsShape shape × (key ≡ shape) × (id.words ≡ 1 + shape.buffers * shape.width)

-- a write of the message of this number is open, and no word is put yet
pub record IsWriting (w : Writing) (number : ℕ) : Type 0 where
  pub opened : w.is_open ≡ true
  pub empty : w.put ≡ []
  pub next : length w.messages ≡ number

-- an attempt at the message of this number began, and no word is loaded yet
pub record IsAttempting (v : Reading) (number : ℕ) : Type 0 where
  pub empty : v.words ≡ []
  pub half : v.first / 2 ≡ number

-- what the writer's fields say of its seat: it is the writer's of this ring, no write is open, and this is the number
-- of its newest message
pub record IsAtRest (ring : RingState) (seat : RingSeat) (number : ℕ) : Type 0 where
  pub own : ring_of seat.table_id (writing_of seat.me.0).shape ≡ ring
  pub seated : IsWriterSeat seat
  pub closed : (writing_of seat.me.0).is_open ≡ false
  pub newest : number + 1 ≡ length (writing_of seat.me.0).messages
