-- Where the lines of a text begin.
use Rattle.std.specs.Prelude.{ℕ, ◌+◌, ◌==◌, List, [], ◌∷◌, if◌then◌else◌}
use Rattle.toml_parser.specs.Lexical.{line_feed}

-- behind each line feed of the rest of a text, whose first byte is this one of the whole
abbrev pub starts_from : ℕ → List ℕ → List ℕ
starts_from at [] = []
starts_from at (byte ∷ bytes) =
    if byte == line_feed then (at + 1) ∷ starts_from (at + 1) bytes else starts_from (at + 1) bytes
