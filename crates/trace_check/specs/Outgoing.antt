-- Which message each node is to send, where a text names one.
use Rattle.std.specs.Prelude.{◌≡◌, ℕ, ◌<◌, List, [], length, get_or, Option, Some, None, IsTrue, if◌then◌else◌}
use Rattle.ttp_base.specs.Text.{lines_of}
use Rattle.ttp_world.specs.declared.medl.Medl.{Medl}
use Rattle.ttp_world.specs.declared.script.Script.{Script}
use Rattle.ttp_world.specs.Legal.{is_legal_message}
use Rattle.ttp_world.specs.Messages.{newest_number}
use Rattle.ttp_world.specs.Outgoing.{messages_before, message_chosen}
use Rattle.ttp_world.specs.TraceNumbers.{words_of, word_in}
use Rattle.ttp_world.specs.World.{chosen_of}
use Rattle.line_text.specs.Numerals.{numeral_in}
use Rattle.line_text.specs.Numerals.{message_digits}
use Rattle.trace_check.specs.declared.outgoing.Outgoing.{Outgoing}

-- the message that a node's line names, if it names one
abbrev pub number_by_line : List ℕ → Option ℕ
number_by_line line = numeral_in message_digits (word_in (words_of line) 8)

-- the oldest message that a node's frame may carry in a slot: its host's newest before the slot
abbrev pub oldest_number : Medl → Script → ℕ → ℕ → ℕ
oldest_number list script slot k = newest_number (messages_before list script k slot)

-- the message that a node is to send, where this one is named: that, if it is legal
abbrev pub number_taken : Medl → Script → ℕ → ℕ → Option ℕ → ℕ
number_taken list script slot k None = oldest_number list script slot k
number_taken list script slot k (Some i) =
    if is_legal_message list script slot k (Some i) then i else oldest_number list script slot k

-- in a slot whose lines begin a text
abbrev pub number_by_text : Medl → Script → ℕ → List ℕ → ℕ → ℕ
number_by_text list script slot text k = number_taken list script slot k (number_by_line (get_or (lines_of text) k []))

-- each host's newest message before a slot is known, and for each node the message of such a number is chosen
pub record Chooses (o : Outgoing) (list : Medl) (script : Script) (slot : ℕ) (number : ℕ → ℕ) : Type 0 where
  pub hosts : length o.newest.items ≡ length list.slots
  pub nodes : length o.chosen.items ≡ length list.slots
  pub newest : (k : ℕ) → k < length list.slots → get_or o.newest.items k 0 ≡ oldest_number list script slot k
  pub chosen : (k : ℕ) → k < length list.slots
      → chosen_of o.chosen.items k ≡ message_chosen list script slot k (Some (number k))

-- between two slots each node would send its host's newest message
abbrev pub HoldsNewest : Outgoing → Medl → Script → ℕ → Type 0
HoldsNewest o list script slot = Chooses o list script slot (oldest_number list script slot)

-- in a slot some legal message is chosen for each node
pub record HasChosen (o : Outgoing) (list : Medl) (script : Script) (slot : ℕ) : Type 0 where
  pub number : ℕ → ℕ
  pub legal : (k : ℕ) → k < length list.slots → IsTrue (is_legal_message list script slot k (Some (number k)))
  pub chooses : Chooses o list script slot number
