-- A script file as lines, and a line as words.
use Rattle.std.specs.Prelude.{ℕ, ◌-◌, Bool, true, false, not, ◌||◌, ◌==◌, List, [], ◌∷◌, map, length}
use Rattle.std.specs.Prelude.{take, filter, slice_index, unwrap_or, slice_get, if◌then◌else◌}
use Rattle.std.specs.List.{slice_split}

-- Lines.

-- the byte that ends a line
abbrev pub is_line_feed : ℕ → Bool
is_line_feed b = b == 10

-- a line without the carriage return at its end, of which one is dropped
abbrev pub without_return : List ℕ → List ℕ
without_return line = if slice_index line (length line - 1) == 13 then take (length line - 1) line else line

-- a line, or a word, is not empty
abbrev pub has_bytes : List ℕ → Bool
has_bytes [] = false
has_bytes (b ∷ bs) = true

-- what follows the last line feed is a line where it is not empty
abbrev pub without_empty_end : List (List ℕ) → List (List ℕ)
without_empty_end [] = []
without_empty_end (line ∷ []) = if has_bytes line then line ∷ [] else []
without_empty_end (line ∷ next ∷ lines) = line ∷ without_empty_end (next ∷ lines)

-- the lines of a file: what stands between line feeds
unfoldable pub lines_of_file : List ℕ → List (List ℕ)
lines_of_file bytes = without_empty_end (map without_return (slice_split is_line_feed bytes))

-- Words.

-- a space or a tab
abbrev pub is_blank : ℕ → Bool
is_blank b = b == 32 || b == 9

-- any other byte is part of a word
abbrev pub is_part : ℕ → Bool
is_part b = not (is_blank b)

-- the words of a line: what stands between blanks and is not empty
unfoldable pub words_of_line : List ℕ → List (List ℕ)
words_of_line line = filter has_bytes (slice_split is_blank line)

-- the word at a place, counted from 0, and no bytes where there is none
abbrev pub word_at : List (List ℕ) → ℕ → List ℕ
word_at words i = unwrap_or (slice_get words i) []

-- a line without words, or whose first word begins with `#`, says nothing
abbrev pub is_comment : List ℕ → Bool
is_comment word = slice_index word 0 == 35

abbrev pub says_nothing : List (List ℕ) → Bool
says_nothing [] = true
says_nothing (word ∷ words) = is_comment word
