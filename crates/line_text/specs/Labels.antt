-- A label, or a whole line, looked for at the front of bytes.
use Rattle.std.specs.Prelude.{ℕ, List, length, take, drop, Option, Some, None, if◌then◌else◌}
use Rattle.std.specs.Str.{bytes_eq}

-- what follows a label at the front
abbrev pub after_label : List ℕ → List ℕ → Option (List ℕ)
after_label label bytes =
    if bytes_eq (take (length label) bytes) label then Some (drop (length label) bytes) else None
