-- What a line of a script says: its form by its first word, and what it states.
--
-- A line is its words, of which the first, at place 0, names the form. What a word at its place says is read from it
-- even where it is wrong, since a fault that stands earlier is then the answer.
use Rattle.std.specs.Prelude.{ℕ, ℤ, Bool, true, ◌&&◌, ◌==◌, List, length, codes, Option, Some, None, if◌then◌else◌}
use Rattle.ttp_world.specs.declared.script.Event.{Event}
use Rattle.ttp_world.specs.declared.script.Event.TheVariants as event
use Rattle.script_text.specs.declared.keyword.Keyword.{Keyword}
use Rattle.script_text.specs.declared.keyword.Keyword.TheVariants as keyword
use Rattle.script_text.specs.Lines.{word_at}
use Rattle.script_text.specs.Numbers.{is_text, is_number, decimal_value, is_value, value_in, is_hex_word}
use Rattle.script_text.specs.Numbers.{digit_bytes_in, is_source, source_named, is_channels, channels_in, is_fault}
use Rattle.script_text.specs.Numbers.{fault_in}

-- the form that a line's first word names
abbrev pub keyword_of : List ℕ → Option Keyword
keyword_of word =
    if is_text (codes "slots") word then Some keyword.Slots else (
    if is_text (codes "on") word then Some keyword.On else (
    if is_text (codes "drift") word then Some keyword.Drift else (
    if is_text (codes "send") word then Some keyword.Send else (
    if is_text (codes "receive") word then Some keyword.Receive else (
    if is_text (codes "flip") word then Some keyword.Flip else (
    if is_text (codes "error") word then Some keyword.Error else (
    if is_text (codes "jump") word then Some keyword.Jump else (
    if is_text (codes "arm") word then Some keyword.Arm else (
    if is_text (codes "write") word then Some keyword.Write else (
    if is_text (codes "read") word then Some keyword.Read else None))))))))))

-- how many words a line of a form has
abbrev pub form_word_count : Keyword → ℕ
form_word_count keyword.Slots = 2
form_word_count keyword.On = 3
form_word_count keyword.Drift = 3
form_word_count keyword.Send = 6
form_word_count keyword.Receive = 6
form_word_count keyword.Flip = 5
form_word_count keyword.Error = 5
form_word_count keyword.Jump = 4
form_word_count keyword.Arm = 3
form_word_count keyword.Write = 4
form_word_count keyword.Read = 4

-- channels and faults are spelled as they are due
abbrev pub has_channels : Keyword → List (List ℕ) → Bool
has_channels keyword.Send words = is_channels (word_at words 2) && is_fault (word_at words 3)
has_channels keyword.Receive words = is_channels (word_at words 2) && is_fault (word_at words 3)
has_channels keyword.Flip words = is_channels (word_at words 2)
has_channels _ words = true

-- a line has the words of its form, as many, and spelled as they are due
abbrev pub is_spelled : Keyword → List (List ℕ) → Bool
is_spelled form words = (length words == form_word_count form) && has_channels form words

-- where a number is due there is one
abbrev pub has_numbers : Keyword → List (List ℕ) → Bool
has_numbers keyword.Slots words = is_number (word_at words 1)
has_numbers keyword.On words = is_number (word_at words 1) && is_number (word_at words 2)
has_numbers keyword.Drift words = is_number (word_at words 1) && is_value (word_at words 2)
has_numbers keyword.Send words =
    is_number (word_at words 1) && (is_number (word_at words 4) && is_number (word_at words 5))
has_numbers keyword.Receive words =
    is_number (word_at words 1) && (is_number (word_at words 4) && is_number (word_at words 5))
has_numbers keyword.Flip words =
    is_number (word_at words 1) && (is_number (word_at words 3) && is_number (word_at words 4))
has_numbers keyword.Error words =
    is_number (word_at words 1)
    && (is_value (word_at words 2) && (is_number (word_at words 3) && is_number (word_at words 4)))
has_numbers keyword.Jump words =
    is_number (word_at words 1) && (is_value (word_at words 2) && is_number (word_at words 3))
has_numbers keyword.Arm words = is_number (word_at words 1) && is_number (word_at words 2)
has_numbers keyword.Write words =
    is_number (word_at words 1) && (is_number (word_at words 2) && is_hex_word (word_at words 3))
has_numbers keyword.Read words =
    is_number (word_at words 1) && (is_number (word_at words 2) && is_source (word_at words 3))

-- the number that the word at a place is
abbrev pub number_at_word : List (List ℕ) → ℕ → ℕ
number_at_word words i = decimal_value (word_at words i)

-- what a line states
pub data Statement : Type 0 where
  -- the run has so many slots
  says_slots : (count : ℕ) → Statement
  -- a node is switched on in a slot
  says_on : (node slot : ℕ) → Statement
  -- a node's clock drifts so far in each slot
  says_drift : (node : ℕ) (value : ℤ) → Statement
  -- something happens in slots
  says_event : Event → Statement

-- what a line of a form states
abbrev pub statement_of : Keyword → List (List ℕ) → Statement
statement_of keyword.Slots words = says_slots (number_at_word words 1)
statement_of keyword.On words = says_on (number_at_word words 1) (number_at_word words 2)
statement_of keyword.Drift words = says_drift (number_at_word words 1) (value_in (word_at words 2))
statement_of keyword.Send words =
    says_event (event.Send (number_at_word words 1) (channels_in (word_at words 2)) (fault_in (word_at words 3))
    (number_at_word words 4) (number_at_word words 5))
statement_of keyword.Receive words =
    says_event (event.Receive (number_at_word words 1) (channels_in (word_at words 2)) (fault_in (word_at words 3))
    (number_at_word words 4) (number_at_word words 5))
statement_of keyword.Flip words =
    says_event (event.Flip (number_at_word words 1) (channels_in (word_at words 2)) (number_at_word words 3)
    (number_at_word words 4))
statement_of keyword.Error words =
    says_event (event.Error (number_at_word words 1) (value_in (word_at words 2)) (number_at_word words 3)
    (number_at_word words 4))
statement_of keyword.Jump words =
    says_event (event.Jump (number_at_word words 1) (value_in (word_at words 2)) (number_at_word words 3))
statement_of keyword.Arm words = says_event (event.Arm (number_at_word words 1) (number_at_word words 2))
statement_of keyword.Write words =
    says_event (event.Write (number_at_word words 1) (number_at_word words 2) (digit_bytes_in (word_at words 3)))
statement_of keyword.Read words =
    says_event (event.Read (number_at_word words 1) (number_at_word words 2) (source_named (word_at words 3)))
