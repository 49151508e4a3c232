-- Texts as lists of lines, and what a line is made of, beside std's decimal numbers.
use Rattle.std.specs.Prelude.{ℕ, zero, suc, ◌==◌, ◌+◌, ◌/◌, ◌%◌, nat_lt, Bool, false, if◌then◌else◌}
use Rattle.std.specs.Prelude.{List, [], ◌∷◌, ◌++◌, length, fold}
use Rattle.std.specs.List.{flat_map}
use Rattle.ttp_base.specs.NodeSet.{below}

-- the bytes of each line, with the line feed that ends it
abbrev pub Lines : Type 0
Lines = List (List ℕ)

-- pieces put behind a text, one after the other
abbrev pub gather : List ℕ → List (List ℕ) → List ℕ
gather text pieces = fold (λ (t : List ℕ) piece. t ++ piece) text pieces

-- the line feed that ends a line
abbrev pub newline : List ℕ
newline = 10 ∷ []

-- a byte is a line feed
abbrev pub is_newline : ℕ → Bool
is_newline b = b == 10

-- whether these bytes are one line: their one line feed is the last of them
abbrev pub is_line : List ℕ → Bool
is_line [] = false
is_line (b ∷ bytes) = if is_newline b then length bytes == 0 else is_line bytes

-- a byte before the first line
abbrev pub before_lines : ℕ → Lines → Lines
before_lines b [] = (b ∷ []) ∷ []
before_lines b (line ∷ lines) = (b ∷ line) ∷ lines

-- the lines of bytes: each ends after a line feed, and a rest without one is the last
abbrev pub lines_of : List ℕ → Lines
lines_of [] = []
lines_of (b ∷ bytes) = if is_newline b then newline ∷ lines_of bytes else before_lines b (lines_of bytes)

-- the lines of the numbers below a number, one number after another
abbrev pub lines_below : (ℕ → Lines) → ℕ → Lines
lines_below lines n = flat_map lines (below n)

-- the lower-case hexadecimal digit of a number below 16
abbrev pub hex_digit : ℕ → ℕ
hex_digit d = if nat_lt d 10 then 48 + d else 87 + d

-- the lowest digits of a number, as many as are asked for, the most significant first
abbrev pub hex : ℕ → ℕ → List ℕ
hex zero v = []
hex (suc digits) v = hex digits (v / 16) ++ hex_digit (v % 16) ∷ []

-- two digits for each byte
abbrev pub byte_hex : ℕ → List ℕ
byte_hex b = hex_digit (b / 16) ∷ hex_digit (b % 16) ∷ []

abbrev pub hex_bytes : List ℕ → List ℕ
hex_bytes bs = flat_map byte_hex bs
