-- What contracts see of a ring, of its writer and of a reader.
use Rattle.std.specs.Prelude.{ℕ, ◌+◌, ◌*◌, List, [], ◌∷◌, ◌++◌, replicate, length}
use Rattle.atomic_table.specs.Seated.{TableId}
use Rattle.nbw_ring.specs.declared.view.Shape.{Shape}
use Rattle.nbw_ring.specs.declared.view.Message.{Message}
use Rattle.nbw_ring.specs.declared.view.Settlement.{Settlement}
use Rattle.nbw_ring.specs.Numbers.{newest_number}

-- which ring it is, and its shape
pub record RingState : Type 0 where
  pub id : TableId
  pub shape : Shape

-- the ring that a writer writes; its messages with number 0 first; what was settled, reader after reader; and how many
-- steps on shared words it made
pub record WriterState : Type 0 where
  pub ring : RingState
  pub messages : List (List ℕ)
  pub joined : List Settlement
  pub steps : ℕ

-- the ring that a reader reads; its floor; the newest counter that it loaded; the counter with which its newest attempt
-- began; how many attempts it began; the pairs that it got; how many steps on shared words it made; and for how many
-- more messages it has room
pub record ReaderState : Type 0 where
  pub ring : RingState
  pub floor : ℕ
  pub seen : ℕ
  pub first : ℕ
  pub tries : ℕ
  pub got : List Message
  pub steps : ℕ
  pub spare : ℕ

-- the writer of a new ring: it wrote the message of zeros, and nothing is joined
abbrev pub new_writer : RingState → WriterState
new_writer ring = record { ring = ring; messages = replicate ring.shape.width 0 ∷ []; joined = []; steps = 0 }

-- the writer with one message more, which is a step for each word and two for the counter, and nothing else changed
abbrev pub with_message : WriterState → List ℕ → WriterState
with_message w words = record w { messages = w.messages ++ words ∷ []; steps = w.steps + (length words + 2) }

-- a reader that was just lent: it can get no message older than the writer's newest
abbrev pub new_reader : WriterState → ℕ → ReaderState
new_reader w reads = record {
  ring = w.ring;
  floor = newest_number w.messages;
  seen = 2 * newest_number w.messages;
  first = 2 * newest_number w.messages;
  tries = 0;
  got = [];
  steps = 0;
  spare = reads;
}

-- what is settled of a reader: its pairs, its newest counter and its attempts
abbrev pub settlement_of : ReaderState → Settlement
settlement_of r = record { pairs = r.got; seen = r.seen; tries = r.tries }

-- the writer once a reader is joined, by a step, and the counter loaded, by one more; and nothing else changed
abbrev pub with_joined : WriterState → ReaderState → WriterState
with_joined w r = record w { joined = w.joined ++ settlement_of r ∷ []; steps = w.steps + 2 }
