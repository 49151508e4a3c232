-- The message numbers that the lines of a trace name: those of its `send` lines that have one and of its `read` lines,
-- slot by slot.
use Rattle.std.specs.Prelude.{ℕ, zero, suc, ◌+◌, ◌-◌, ◌*◌, Bool, ◌&&◌, not, ◌==◌, List, [], ◌∷◌, map, length, get_or}
use Rattle.std.specs.Prelude.{find, fold, Option, Some, None, option_and_then, codes, decimal, nat_le, if◌then◌else◌}
use Rattle.std.specs.List.{filter_map, list_all, slice_split}
use Rattle.std.specs.Str.{bytes_eq}
use Rattle.ttp_base.specs.NodeSet.{below}
use Rattle.ttp_base.specs.Text.{Lines}
use Rattle.ttp_world.specs.declared.medl.Medl.{Medl}
use Rattle.ttp_world.specs.declared.script.Script.{Script}
use Rattle.ttp_world.specs.World.{SlotNumbers, Numbers}

-- the words of a line, which spaces part; the line feed stays with the last one
abbrev pub words_of : List ℕ → List (List ℕ)
words_of line = slice_split (λ c. c == 32) line

-- the word at a place
abbrev pub word_in : List (List ℕ) → ℕ → List ℕ
word_in words i = get_or words i []

-- a byte is a decimal digit
abbrev pub is_digit : ℕ → Bool
is_digit c = nat_le 48 c && nat_le c 57

-- a number with one decimal digit more
abbrev pub append_digit : ℕ → ℕ → ℕ
append_digit v c = 10 * v + (c - 48)

-- the number that a word writes, where it has digits alone
abbrev pub number_named : List ℕ → Option ℕ
number_named word = if list_all is_digit word && not (length word == 0) then Some (fold append_digit 0 word) else None

-- the words of a line `slot SLOT node K send ..`
abbrev pub is_sending_line : ℕ → ℕ → List (List ℕ) → Bool
is_sending_line slot k words =
    bytes_eq (word_in words 2) (codes "node")
    && (bytes_eq (word_in words 4) (codes "send")
    && (bytes_eq (word_in words 1) (decimal slot) && bytes_eq (word_in words 3) (decimal k)))

-- the words of a line `slot SLOT host K read ..`
abbrev pub is_reading_line : ℕ → List (List ℕ) → Bool
is_reading_line slot words =
    bytes_eq (word_in words 2) (codes "host")
    && (bytes_eq (word_in words 4) (codes "read") && bytes_eq (word_in words 1) (decimal slot))

-- the number that follows `msg` in the line of node k's frame
abbrev pub number_sent : List (List (List ℕ)) → ℕ → ℕ → Option ℕ
number_sent lines slot k =
    option_and_then (λ words. number_named (word_in words 8)) (find (is_sending_line slot k) lines)

-- the number that follows the source
abbrev pub number_read : ℕ → List (List ℕ) → Option ℕ
number_read slot words = if is_reading_line slot words then number_named (word_in words 6) else None

-- of lines that are given by their words
abbrev pub slot_numbers : Medl → List (List (List ℕ)) → ℕ → SlotNumbers
slot_numbers list lines slot = record {
  sent = map (number_sent lines slot) (below (length list.slots));
  read = filter_map (number_read slot) lines;
}

-- the numbers of the slots below a slot
abbrev pub numbers_below : Medl → List (List (List ℕ)) → ℕ → Numbers
numbers_below list lines zero = []
numbers_below list lines (suc slot) = slot_numbers list lines slot ∷ numbers_below list lines slot

-- the numbers that the lines of a text name, in a run of all slots
abbrev pub numbers_in : Medl → Script → Lines → Numbers
numbers_in list script lines = numbers_below list (map words_of lines) script.slots
