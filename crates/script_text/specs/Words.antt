-- A line cut into words, one after another.
use Rattle.std.specs.Prelude.{◌≡◌, ℕ, ◌<◌, ◌≤◌, Bool, true, false, List, [], ◌∷◌, length, take}
use Rattle.std.specs.Prelude.{slice_index, if◌then◌else◌}
use Rattle.std.specs.Char.{is_ascii_digit}
use Rattle.std.specs.List.{list_all}
use Rattle.script_text.specs.Lines.{has_bytes, words_of_line, word_at}
use Rattle.script_text.specs.Numbers.{most_digits, decimal_value}

-- a text begins with so many digits, all or as many as a number has, which are this number
pub record FrontDigits (text : List ℕ) (count number : ℕ) : Type 0 where
  pub within : count ≤ length text
  pub most : count ≤ most_digits
  pub digits : list_all is_ascii_digit (take count text) ≡ true
  pub value : number ≡ decimal_value (take count text)
  pub all : count < length text → count < most_digits → is_ascii_digit (slice_index text count) ≡ false

-- a line has this first word, and the other words are those of what is left; or it has none, and the word no bytes
pub record CutsWord (line word rest : List ℕ) : Type 0 where
  pub words : words_of_line line ≡ (if has_bytes word then word ∷ words_of_line rest else [])
  pub end : has_bytes word ≡ false → words_of_line rest ≡ []

-- the words up to the first that has no bytes
abbrev pub held : List (List ℕ) → List (List ℕ)
held [] = []
held (word ∷ words) = if has_bytes word then word ∷ held words else []

-- those behind it have none either
abbrev pub AreHeld : List (List ℕ) → Type 0
AreHeld words = (i : ℕ) → word_at (held words) i ≡ word_at words i
