-- What holds between any two steps on the words of a ring, of the words and of what each thread knows.
use Rattle.std.specs.Prelude.{◌≡◌, ℕ, ◌+◌, ◌*◌, ◌/◌, ◌<◌, ◌≤◌, true, false, List, [], ◌∷◌, All, length, take, replicate}
use Rattle.std.specs.Prelude.{slice_index}
use mathlib.Core.Option.{some}
use lib.ListN.{get_elem?}
use Rattle.atomic_table.specs.Table.{State}
use Rattle.nbw_ring.specs.declared.view.Shape.{Shape}
use Rattle.nbw_ring.specs.declared.view.Settlement.{Settlement}
use Rattle.nbw_ring.specs.declared.view.Writing.{Writing}
use Rattle.nbw_ring.specs.declared.view.Reading.{Reading}
use Rattle.nbw_ring.specs.declared.view.View.{View}
use Rattle.nbw_ring.specs.declared.view.View.TheVariants.{Writer, Reader, Spent}
use Rattle.nbw_ring.specs.Numbers.{most_number, limit, place, message_at, IsMessageOf, odd_part}

-- what was settled of a reader is true of the writer's messages and of the counter
abbrev pub IsSettled : List (List ℕ) → ℕ → Settlement → Type 0
IsSettled messages counter settled = All (λ p. IsMessageOf messages p) settled.pairs × (settled.seen ≤ counter)

-- what a reader knows is true
pub record ReaderKnows (shape : Shape) (counter : ℕ) (messages : List (List ℕ)) (v : Reading) : Type 0 where
  pub shaped : v.shape ≡ shape
  pub floored : 2 * v.floor ≤ v.first
  pub begun : v.first ≤ v.seen
  pub loaded : v.seen ≤ counter
  -- while the message of the newest attempt is intact, the words loaded are its first words
  pub attempt : counter < limit shape (v.first / 2)
      → v.words ≡ take (length v.words) (message_at messages (v.first / 2))
  pub got : All (λ p. IsMessageOf messages p × (p.number ≤ v.floor)) v.got

-- what the thread at a seat knows is true, where `writing` is what the writer's seat knows
abbrev pub Knows : Shape → ℕ → ℕ → Writing → ℕ → View → Type 0
Knows shape counter writer writing seat (Writer w) =
    (seat ≡ writer) × (w ≡ writing) × All (IsSettled w.messages counter) w.joined
Knows shape counter writer writing seat (Reader v) = ReaderKnows shape counter writing.messages v
Knows shape counter writer writing seat Spent = Unit {0}

-- the rule: the words of a ring, and what each seat knows, fit
pub record Kept (shape : Shape) (s : State (Unit {0}) View) : Type 0 where
  -- one seat is the writer's, and `each_seat` says that no other is
  pub writer : ℕ
  pub writing : Writing
  pub present : get_elem? s.views writer ≡ some (Writer writing)
  pub shaped : writing.shape ≡ shape
  pub buffered : 0 < shape.buffers
  pub long : length s.words ≡ 1 + shape.buffers * shape.width
  -- the counter is twice the newest number, which is one less than the number of messages, and one more while a write
  -- is open
  pub counted : slice_index s.words 0 + 2 ≡ 2 * length writing.messages + odd_part writing.is_open
  -- so that the counter fits a word
  pub few : length writing.messages ≤ most_number + 1
  pub wide : (i : ℕ) → i < length writing.messages → length (message_at writing.messages i) ≡ shape.width
  -- each intact message is in its buffer
  pub stored : (i k : ℕ) → i < length writing.messages → slice_index s.words 0 < limit shape i → k < shape.width
      → slice_index s.words (place shape i k) ≡ slice_index (message_at writing.messages i) k
  -- while a write is open, the words put so far are in the buffer of the next number
  pub putting : writing.is_open ≡ true → (k : ℕ) → k < length writing.put
      → slice_index s.words (place shape (length writing.messages) k) ≡ slice_index writing.put k
  pub each_seat : (seat : ℕ) (v : View) → get_elem? s.views seat ≡ some v
      → Knows shape (slice_index s.words 0) writer writing seat v

-- what the writer of a new ring knows: the message of zeros is there
abbrev pub first_writing : Shape → Writing
first_writing shape =
    record { shape = shape; messages = replicate shape.width 0 ∷ []; is_open = false; put = []; joined = []; steps = 0 }

abbrev pub first_view : Shape → View
first_view shape = Writer (first_writing shape)
