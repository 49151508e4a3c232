-- Words as lists of bytes, and numerals among them.
use Rattle.std.specs.Prelude.{List, ℕ, nat_le, nat_lt, length, map, String, string_bytes, Option, Some, None}
use Rattle.std.specs.Prelude.{if◌then◌else◌}
use Rattle.std.specs.declared.alloc.Global.{Global}
use Rattle.ttp_world.specs.TraceNumbers.{number_named}

-- the words' bytes
abbrev pub texts_of : List (String Global) → List (List ℕ)
texts_of words = map string_bytes words

-- a number, where it is below a limit
abbrev pub number_below : ℕ → ℕ → Option ℕ
number_below limit k = if nat_lt k limit then Some k else None

-- the number that a word of decimal digits names, of at most so many
abbrev pub numeral_named : ℕ → List ℕ → Option ℕ
numeral_named most word = if nat_le (length word) most then number_named word else None
