-- The line and the column of each error of a list.
use Rattle.std.specs.Prelude.{ℕ, ◌+◌, ◌-◌, Bool, true, false, not, ◌==◌, List, []}
use Rattle.std.specs.Prelude.{◌∷◌, length, map, take, count_by, codes, slice_get}
use Rattle.std.specs.Prelude.{Option, Some, None, option_map, option_and_then, if◌then◌else◌}
use Rattle.std.specs.List.{suffix_len}
use Rattle.std.specs.Str.{is_utf8}
use Rattle.toml_parser.specs.Lexical.{line_feed}
use Rattle.medl_text.specs.declared.error.Field.{Field}
use Rattle.medl_text.specs.ListFile.{key_text}
use Rattle.list_errors.specs.declared.error.Wrong.{Wrong}
use Rattle.list_errors.specs.declared.error.Wrong.TheVariants as wrong
use Rattle.list_places.specs.declared.lines.Place.{Place}
use Rattle.toml_walk.specs.declared.stop.Stop.{Stop}
use Rattle.toml_walk.specs.Walk.{stop_of}
use Rattle.list_places.specs.Marks.{Marked, first_left, marks_of}

-- a byte of a text by its line and its column, both counted from 1
abbrev pub line_and_column : List ℕ → ℕ → Place
line_and_column text at = record {
  line = 1 + count_by (λ b. b == line_feed) (take at text);
  column = 1 + suffix_len (λ b. not (b == line_feed)) (take at text);
}

-- where a key at the top, or of a slot, is first written
abbrev pub key_left : Marked → Option ℕ → List ℕ → Option ℕ
key_left m None key = first_left key m.top
key_left m (Some k) key = option_and_then (λ slot. first_left key slot.keys) (slice_get m.slots k)

-- where a key of the format is first written
abbrev pub field_left : Marked → Field → Option ℕ
field_left m field = key_left m field.slot (key_text field.name)

-- where a slot stands
abbrev pub slot_left : Marked → Option ℕ → Option ℕ
slot_left m None = None
slot_left m (Some k) = option_map (λ slot. slot.left) (slice_get m.slots k)

-- a key that is no text stands nowhere
abbrev pub unknown_left : Marked → Option ℕ → List ℕ → Option ℕ
unknown_left m slot key = if is_utf8 key then key_left m slot key else None

-- the bytes that are left where an error stands that has a place among the marks
abbrev pub bytes_left : Marked → Wrong → Option ℕ
bytes_left m wrong.TooLarge = None
bytes_left m wrong.Utf16 = None
bytes_left m (wrong.IsScript at) = None
bytes_left m (wrong.NotUtf8 at byte) = None
bytes_left m wrong.NotToml = None
bytes_left m (wrong.Missing field) = slot_left m field.slot
bytes_left m (wrong.WrongKind field found) = field_left m field
bytes_left m (wrong.OutOfRange field value low high) = field_left m field
bytes_left m (wrong.SlotCount found) = key_left m None (codes "slot")
bytes_left m (wrong.Kinds k letters) = key_left m (Some k) (codes "kinds")
bytes_left m (wrong.NoRequestData k) = key_left m (Some k) (codes "requests")
bytes_left m (wrong.Live k letters) = key_left m (Some k) (codes "live")
bytes_left m (wrong.Unknown slot key) = unknown_left m slot key
bytes_left m (wrong.NoSync found) = key_left m None (codes "slot")

-- the byte with so many left, and the first one where that is not known
abbrev pub at_left : ℕ → Option ℕ → ℕ
at_left size None = 0
at_left size (Some left) = size - left

-- the byte at which an error stands
abbrev pub at_of : Marked → ℕ → Wrong → ℕ
at_of m size (wrong.IsScript at) = at
at_of m size (wrong.NotUtf8 at byte) = at
at_of m size w = at_left size (bytes_left m w)

-- where the marks tell the places of errors
abbrev pub marked_places : List ℕ → Marked → List Wrong → List Place
marked_places bytes m wrongs = map (λ w. line_and_column bytes (at_of m (length bytes) w)) wrongs

-- where bytes stop being TOML, if they are text
abbrev pub bytes_stop : List ℕ → Option Stop
bytes_stop bytes = if is_utf8 bytes then stop_of bytes else None

-- the byte of a stop
abbrev pub byte_of_stop : Option Stop → ℕ
byte_of_stop None = 0
byte_of_stop (Some stop) = stop.at

-- the one error is that the text is no TOML
abbrev pub is_no_toml : List Wrong → Bool
is_no_toml (wrong.NotToml ∷ []) = true
is_no_toml wrongs = false

-- the marks of bytes, if they are text
abbrev pub bytes_marks : List ℕ → Marked
bytes_marks bytes = marks_of (if is_utf8 bytes then bytes else [])

-- the place of each error
unfoldable pub found_places : List ℕ → List Wrong → List Place
found_places bytes wrongs =
    if is_no_toml wrongs then line_and_column bytes (byte_of_stop (bytes_stop bytes)) ∷ []
    else marked_places bytes (bytes_marks bytes) wrongs

-- where the text stops being TOML, if that is what is wrong
unfoldable pub stop_told : List ℕ → List Wrong → Option Stop
stop_told bytes wrongs = if is_no_toml wrongs then bytes_stop bytes else None
