-- What each step makes of what its thread knows.
use Rattle.std.specs.Prelude.{◌≡◌, ℕ, ◌+◌, ◌*◌, ◌/◌, ◌≤◌, true, false, [], ◌∷◌, ◌++◌, All, length, nat_lt}
use Rattle.std.specs.Prelude.{if◌then◌else◌}
use Rattle.atomic_table.specs.Table.{Me, Step}
use Rattle.nbw_ring.specs.declared.view.Message.{Message}
use Rattle.nbw_ring.specs.declared.view.Settlement.{Settlement}
use Rattle.nbw_ring.specs.declared.view.Writing.{Writing}
use Rattle.nbw_ring.specs.declared.view.Reading.{Reading}
use Rattle.nbw_ring.specs.declared.view.View.{View}
use Rattle.nbw_ring.specs.declared.view.View.TheVariants.{Writer, Reader, Spent}
use Rattle.nbw_ring.specs.Numbers.{most_number, newest_number, limit, odd_part}
use Rattle.nbw_ring.specs.Rule.{IsSettled}

-- a thread at a ring holds no slot: a ring has none
abbrev pub Sat : Type 0
Sat = Me (Unit {0}) View

-- Each step is counted.

-- a step that does nothing else
abbrev pub writer_stepped : Writing → Writing
writer_stepped w = record w { steps = w.steps + 1 }

abbrev pub reader_stepped : Reading → Reading
reader_stepped v = record v { steps = v.steps + 1 }

-- 1 begin: a write is open, with no words
abbrev pub with_open : Writing → Writing
with_open w = record w { is_open = true; put = []; steps = w.steps + 1 }

-- 2 put: a word more
abbrev pub with_word : ℕ → Writing → Writing
with_word x w = record w { put = w.put ++ x ∷ []; steps = w.steps + 1 }

-- 3 end: the words become a message
abbrev pub with_new_message : Writing → Writing
with_new_message w =
    record w { messages = w.messages ++ w.put ∷ []; is_open = false; put = []; steps = w.steps + 1 }

-- 4 first load: an attempt begins
abbrev pub with_first : ℕ → Reading → Reading
with_first counter v =
    record v { seen = counter; first = counter; tries = v.tries + 1; words = []; steps = v.steps + 1 }

-- 5 word load
abbrev pub with_loaded : ℕ → Reading → Reading
with_loaded x v = record v { words = v.words ++ x ∷ []; steps = v.steps + 1 }

-- the message of the newest attempt, as it was loaded
abbrev pub attempt_of : Reading → Message
attempt_of v = record { number = v.first / 2; words = v.words }

-- 6 last load: below the limit the attempt's message is got
abbrev pub with_last : ℕ → Reading → Reading
with_last counter v =
    if nat_lt counter (limit v.shape (v.first / 2))
    then record v { seen = counter; floor = v.first / 2; got = v.got ++ attempt_of v ∷ []; steps = v.steps + 1 }
    else record v { seen = counter; steps = v.steps + 1 }

-- a new reader, whose floor is the writer's number
abbrev pub new_reading : Writing → Reading
new_reading w = record {
  shape = w.shape;
  floor = newest_number w.messages;
  seen = 2 * newest_number w.messages;
  first = 2 * newest_number w.messages;
  tries = 0;
  words = [];
  got = [];
  steps = 0;
}

-- what is settled of a reader
abbrev pub reading_settlement : Reading → Settlement
reading_settlement v = record { pairs = v.got; seen = v.seen; tries = v.tries }

-- the writer once a reader is joined, which is a load of a word
abbrev pub with_settled : Reading → Writing → Writing
with_settled v w = record w { joined = w.joined ++ reading_settlement v ∷ []; steps = w.steps + 1 }

-- a change of what the writer knows, and one of what a reader knows: a step of another is counted all the same
abbrev pub as_writer : (Writing → Writing) → View → View
as_writer f (Writer w) = Writer (f w)
as_writer f (Reader v) = Reader (reader_stepped v)
as_writer f Spent = Spent

abbrev pub as_reader : (Reading → Reading) → View → View
as_reader f (Writer w) = Writer (writer_stepped w)
as_reader f (Reader v) = Reader (f v)
as_reader f Spent = Spent

-- what a new reader knows that a writer lends
abbrev pub lent_view : View → View
lent_view (Writer w) = Reader (new_reading w)
lent_view (Reader v) = Spent
lent_view Spent = Spent

-- what the writer knows once a reader is joined
abbrev pub joined_view : View → View → View
joined_view (Writer w) (Reader v) = Writer (with_settled v w)
joined_view (Writer w) (Writer u) = Writer (writer_stepped w)
joined_view (Writer w) Spent = Writer (writer_stepped w)
joined_view (Reader v) other = Reader (reader_stepped v)
joined_view Spent other = Spent

-- a load of the counter is not below what the reader knows of it, and twice a number near it fits a word
pub record IsLater (counter : ℕ) (v : Reading) : Type 0 where
  pub above_floor : 2 * v.floor ≤ counter
  pub above_seen : v.seen ≤ counter
  pub small : counter ≤ 2 * most_number + 1

-- a load of the counter may follow what a thread knows of it, if it is a reader
abbrev pub FollowsCounter : ℕ → View → Type 0
FollowsCounter counter (Writer w) = Unit {0}
FollowsCounter counter (Reader v) = IsLater counter v
FollowsCounter counter Spent = Unit {0}

-- what the load of the counter tells the writer once a reader was joined
abbrev pub Confirms : ℕ → View → Type 0
Confirms counter (Writer w) =
    (counter + 2 ≡ 2 * length w.messages + odd_part w.is_open)
    × All (IsSettled w.messages counter) w.joined
Confirms counter (Reader v) = Unit {0}
Confirms counter Spent = Unit {0}

-- what the steps tell, of the step, the thread before, the number found and the thread after
abbrev pub tells_begin : Step (Unit {0}) → Sat → ℕ → Sat → Type 0
tells_begin st m found m' = m' ≡ (as_writer with_open m.0, m.1)

-- a word is put
abbrev pub tells_put : Step (Unit {0}) → Sat → ℕ → Sat → Type 0
tells_put st m found m' = m' ≡ (as_writer (with_word st.first) m.0, m.1)

-- a write ends
abbrev pub tells_end : Step (Unit {0}) → Sat → ℕ → Sat → Type 0
tells_end st m found m' = m' ≡ (as_writer with_new_message m.0, m.1)

-- an attempt begins
abbrev pub tells_first_load : Step (Unit {0}) → Sat → ℕ → Sat → Type 0
tells_first_load st m found m' = (m' ≡ (as_reader (with_first found) m.0, m.1)) × FollowsCounter found m.0

-- a word is loaded
abbrev pub tells_word_load : Step (Unit {0}) → Sat → ℕ → Sat → Type 0
tells_word_load st m found m' = m' ≡ (as_reader (with_loaded found) m.0, m.1)

-- an attempt ends
abbrev pub tells_last_load : Step (Unit {0}) → Sat → ℕ → Sat → Type 0
tells_last_load st m found m' = (m' ≡ (as_reader (with_last found) m.0, m.1)) × FollowsCounter found m.0

-- the counter is loaded once a reader was joined
abbrev pub tells_settle_load : Step (Unit {0}) → Sat → ℕ → Sat → Type 0
tells_settle_load st m found m' = (m' ≡ (as_writer writer_stepped m.0, m.1)) × Confirms found m.0
