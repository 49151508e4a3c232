-- What a line says of a fault of a list.
use Rattle.std.specs.Prelude.{ℕ, ◌==◌, Bool, true, false, List, ◌++◌, map, codes, Option, Some, None, if◌then◌else◌}
use Rattle.std.specs.Fmt.{decimal}
use Rattle.ttp_base.specs.Text.{byte_hex}
use Rattle.medl_text.specs.declared.error.Field.{Field}
use Rattle.medl_text.specs.declared.error.FieldName.{FieldName}
use Rattle.medl_text.specs.declared.error.FieldName.TheVariants as names
use Rattle.medl_text.specs.ListFile.{key_text, top_keys, slot_keys, is_known_key}
use Rattle.commands.specs.Faults.{list_fault_text}
use Rattle.list_errors.specs.declared.error.ValueType.{ValueType}
use Rattle.list_errors.specs.declared.error.ValueType.TheVariants as value_type
use Rattle.list_errors.specs.declared.error.Wrong.{Wrong}
use Rattle.list_errors.specs.declared.error.Wrong.TheVariants as wrong
use Rattle.list_errors.specs.Agrees.{list_fault}
use Rattle.check_words.specs.Shown.{shown_word, meant}

-- What `ttpbench` calls it.

unfoldable pub list_fault_name : Wrong → List ℕ
list_fault_name wrong.TooLarge = codes "too large"
list_fault_name w = list_fault_text (list_fault w)

-- What is wanted.

-- how many letters there are to be, where that is known
abbrev pub in_all : Option ℕ → List ℕ
in_all None = codes ""
in_all (Some count) = codes ", " ++ (decimal count ++ codes " in all")

-- the letters of `kinds` and of `live`, by the numbers of rounds and modes
abbrev pub wanted_kinds : Option ℕ → List ℕ
wanted_kinds rounds = codes "one letter I, N or X for each round" ++ in_all rounds

abbrev pub wanted_live : Option ℕ → List ℕ
wanted_live modes = codes "one letter y or n for each mode" ++ in_all modes

-- a value of a key
abbrev pub wanted_value : Option ℕ → Option ℕ → FieldName → List ℕ
wanted_value rounds modes names.Version = codes "integer 1 to 2"
wanted_value rounds modes names.Rounds = codes "integer 1 to 64"
wanted_value rounds modes names.Schedule = codes "integer 0 to 16777215"
wanted_value rounds modes names.Buffers = codes "integer 1 to 16"
wanted_value rounds modes names.Drift = codes "integer 0 to 1000"
wanted_value rounds modes names.Error = codes "integer 0 to 1000"
wanted_value rounds modes names.Window = codes "integer 1 to 1000000"
wanted_value rounds modes names.Slot = codes "array of tables, each [[slot]]"
wanted_value rounds modes names.Modes = codes "integer 1 to 8"
wanted_value rounds modes names.Kinds = wanted_kinds rounds
wanted_value rounds modes names.DataSize = codes "integer 0 to 240"
wanted_value rounds modes names.Sync = codes "true or false"
wanted_value rounds modes names.Start = codes "true or false"
wanted_value rounds modes names.Requests = codes "true or false"
wanted_value rounds modes names.Live = wanted_live modes

-- What stands there.

-- the type of a value
abbrev pub type_name : ValueType → List ℕ
type_name value_type.String = codes "string"
type_name value_type.Integer = codes "integer"
type_name value_type.Float = codes "float"
type_name value_type.Boolean = codes "boolean"
type_name value_type.Datetime = codes "datetime"
type_name value_type.Array = codes "array"
type_name value_type.Table = codes "table"

-- a range, of which the one of 0 alone is that of a slot without payload
abbrev pub wanted_from : ℕ → ℕ → List ℕ
wanted_from low high = codes "wanted " ++ (decimal low ++ (codes " to " ++ decimal high))

abbrev pub wanted_range : ℕ → ℕ → List ℕ
wanted_range low high = if high == 0 then codes "wanted 0, since kinds has I alone" else wanted_from low high

-- a key that no list has at the top, and one that none has in a slot
abbrev pub top_key_by : Bool → List ℕ → List ℕ
top_key_by true key = shown_word key ++ codes " is a key of a slot"
top_key_by false key = meant key (map key_text top_keys)

abbrev pub unknown_top_key : List ℕ → List ℕ
unknown_top_key key = top_key_by (is_known_key slot_keys key) key

abbrev pub unknown_slot_key : List ℕ → List ℕ
unknown_slot_key key =
    if is_known_key top_keys key then shown_word key ++ codes " is a key of the top, before the first [[slot]]"
    else meant key (map key_text slot_keys)

abbrev pub unknown_key : Option ℕ → List ℕ → List ℕ
unknown_key None key = unknown_top_key key
unknown_key (Some k) key = unknown_slot_key key

-- what is said of a fault beside what it is called, by the numbers of rounds and modes where they are known, and by
-- what is said of a text that is no TOML
unfoldable pub list_said : Option ℕ → Option ℕ → List ℕ → Wrong → List ℕ
list_said rounds modes stop wrong.TooLarge = codes "wanted at most 1048576 bytes"
list_said rounds modes stop wrong.Utf16 = codes "the file is UTF-16, save it as UTF-8"
list_said rounds modes stop (wrong.IsScript at) = codes "this file is a script, the list comes first"
list_said rounds modes stop (wrong.NotUtf8 at byte) = codes "byte \\x" ++ (byte_hex byte ++ codes " is no UTF-8")
list_said rounds modes stop wrong.NotToml = stop
list_said rounds modes stop (wrong.Missing field) = codes "wanted " ++ wanted_value rounds modes field.name
list_said rounds modes stop (wrong.WrongKind field found) =
    type_name found ++ (codes ", wanted " ++ wanted_value rounds modes field.name)
list_said rounds modes stop (wrong.OutOfRange field value low high) = wanted_range low high
list_said rounds modes stop (wrong.SlotCount found) = codes "wanted 4 to 16 for version 1, 4 to 24 for version 2"
list_said rounds modes stop (wrong.Kinds slot letters) =
    shown_word letters ++ (codes ", wanted " ++ wanted_kinds rounds)
list_said rounds modes stop (wrong.NoRequestData slot) = codes "requests is true and data is 0"
list_said rounds modes stop (wrong.Live slot letters) = shown_word letters ++ (codes ", wanted " ++ wanted_live modes)
list_said rounds modes stop (wrong.Unknown slot key) = unknown_key slot key
list_said rounds modes stop (wrong.NoSync found) = codes "wanted 4 or more slots with sync = true"
