-- A text within a line, where a control character can't be mistaken for the end of the line or for a command to a
-- terminal.
use Rattle.std.specs.Prelude.{ℕ, ◌+◌, ◌/◌, ◌%◌, Bool, ◌&&◌, ◌||◌, nat_lt, List}
use Rattle.std.specs.Prelude.{[], ◌∷◌, ◌++◌, encode_utf8_all, if◌then◌else◌}

-- The control characters of Unicode: those of ASCII, 127, and 128 to 159.
abbrev pub is_control : ℕ → Bool
is_control c = nat_lt c 32 || (nat_lt 126 c && nat_lt c 160)

-- A hexadecimal digit, a small letter from 10 on.
abbrev pub hex_digit : ℕ → ℕ
hex_digit d = if nat_lt d 10 then 48 + d else 87 + d

-- A control character as `\xHH`, and any other as it is.
abbrev pub shown_char : ℕ → List ℕ
shown_char c = if is_control c then 92 ∷ 120 ∷ hex_digit (c / 16) ∷ hex_digit (c % 16) ∷ [] else c ∷ []

-- The bytes that are shown for the characters of a text.
unfoldable pub text_in_line : List ℕ → List ℕ
text_in_line [] = []
text_in_line (c ∷ cs) = encode_utf8_all (shown_char c) ++ text_in_line cs
