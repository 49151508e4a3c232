-- Numbers of messages, and where messages lie.
use Rattle.std.specs.Prelude.{◌≡◌, ℕ, ◌+◌, ◌-◌, ◌*◌, ◌%◌, ◌^◌, Bool, true, false, List, [], length, slice_get}
use Rattle.std.specs.Prelude.{slice_index_or, Some}
use Rattle.nbw_ring.specs.declared.view.Shape.{Shape}
use Rattle.nbw_ring.specs.declared.view.Message.{Message}

-- no message has a number above this one, so that the counter and twice a number fit a word
abbrev pub most_number : ℕ
most_number = 2 ^ 62

-- the number of the newest message
abbrev pub newest_number : List (List ℕ) → ℕ
newest_number messages = length messages - 1

-- a message is intact while the counter is below this: the write of the message that takes its buffer begins there
abbrev pub limit : Shape → ℕ → ℕ
limit shape number = 2 * (number + shape.buffers) - 1

-- the word of the table where word k of a message lies; word 0 is the counter
abbrev pub place : Shape → ℕ → ℕ → ℕ
place shape number k = 1 + ((number % shape.buffers) * shape.width + k)

-- the message of a number, and no words past the newest
abbrev pub message_at : List (List ℕ) → ℕ → List ℕ
message_at messages number = slice_index_or messages number []

-- the pair is the message of its number
abbrev pub IsMessageOf : List (List ℕ) → Message → Type 0
IsMessageOf messages pair = slice_get messages pair.number ≡ Some pair.words

-- what the counter has beside twice the newest number
abbrev pub odd_part : Bool → ℕ
odd_part true = 1
odd_part false = 0
