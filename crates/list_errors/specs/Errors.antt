-- All that is wrong with a list, in the order in which the reader looks for it.
--
-- A value is an `Option`: what a fault hides is missing, and what is measured by a missing value is not looked at.
use Rattle.std.specs.Prelude.{ℕ, ℤ, suc, ◌+◌, ◌-◌, Bool, true, false, not, ◌&&◌, ◌||◌}
use Rattle.std.specs.Prelude.{◌==◌, List, [], ◌∷◌, ◌++◌, length, take, drop}
use Rattle.std.specs.Prelude.{map, filter, nat_le, nat_lt, codes, Option, Some, None, option_map, slice_index}
use Rattle.std.specs.Prelude.{if◌then◌else◌, option_and_then}
use Rattle.std.specs.List.{list_all}
use Rattle.std.specs.Str.{is_utf8, bytes_eq}
use Rattle.std.specs.Str.Lossy.{utf8_valid_len}
use Rattle.toml.specs.Data as toml_data
use Rattle.toml.specs.Data.{Data}
use Rattle.toml.specs.Data.{Members, no_members, member, Items, as_integer, as_bool, as_str, as_array}
use Rattle.toml_parser.specs.Lexical.{space, tab, line_feed, carriage_return, hash, first}
use Rattle.ttp_world.specs.declared.medl.Kind.{Kind}
use Rattle.medl_text.specs.declared.error.FieldName.{FieldName}
use Rattle.medl_text.specs.declared.error.FieldName.TheVariants as names
use Rattle.medl_text.specs.declared.error.Field.{Field}
use Rattle.medl_text.specs.ListFile.{at_top, at_slot, held_at, is_within, number_at, flag_at, kinds_at}
use Rattle.medl_text.specs.ListFile.{is_kind, is_answer, payload_limit, slots_in, are_tables, slot_limit, modes_in}
use Rattle.medl_text.specs.ListFile.{is_known_key, top_keys, slot_keys, document_of}
use Rattle.list_errors.specs.declared.error.ValueType.{ValueType}
use Rattle.list_errors.specs.declared.error.ValueType.TheVariants as value_type
use Rattle.list_errors.specs.declared.error.Wrong.{Wrong}
use Rattle.list_errors.specs.declared.error.Wrong.TheVariants as wrong

-- a value, where nothing is wrong with it
abbrev pub where_right : {X : Type 0} → List Wrong → X → Option X
where_right [] x = Some x
where_right (w ∷ ws) x = None

-- The faults of one key.

-- the type of a value
abbrev pub type_of : Data → ValueType
type_of (toml_data.string s) = value_type.String
type_of (toml_data.integer z) = value_type.Integer
type_of (toml_data.float x) = value_type.Float
type_of (toml_data.boolean b) = value_type.Boolean
type_of (toml_data.datetime dt) = value_type.Datetime
type_of (toml_data.array ds) = value_type.Array
type_of (toml_data.table ms) = value_type.Table

-- what is wrong with the value of a key that is seen as another type
abbrev pub kind_wrongs : {X : Type 0} → Field → Data → (X → List Wrong) → Option X → List Wrong
kind_wrongs field d wrongs None = wrong.WrongKind field (type_of d) ∷ []
kind_wrongs field d wrongs (Some x) = wrongs x

-- what is wrong with a key: it is there, it is of its type, and what it holds is right
abbrev pub key_wrongs : {X : Type 0} → Field → (Data → Option X) → (X → List Wrong) → Option Data → List Wrong
key_wrongs field seen_as wrongs None = wrong.Missing field ∷ []
key_wrongs field seen_as wrongs (Some d) = kind_wrongs field d wrongs (seen_as d)

-- with one that may be absent
abbrev pub optional_wrongs : {X : Type 0} → Field → (Data → Option X) → (X → List Wrong) → Option Data → List Wrong
optional_wrongs field seen_as wrongs None = []
optional_wrongs field seen_as wrongs (Some d) = kind_wrongs field d wrongs (seen_as d)

-- nothing is wrong with the value itself
abbrev pub nothing_wrong : {X : Type 0} → X → List Wrong
nothing_wrong x = []

-- a number of a range
abbrev pub range_wrongs : Field → ℕ → ℕ → ℤ → List Wrong
range_wrongs field low high z = if is_within low high z then [] else wrong.OutOfRange field z low high ∷ []

unfoldable pub number_wrongs : Field → ℕ → ℕ → Members → List Wrong
number_wrongs field low high table = key_wrongs field as_integer (range_wrongs field low high) (held_at field table)

-- the number itself
abbrev pub number_known : Field → ℕ → ℕ → Members → Option ℕ
number_known field low high table = where_right (number_wrongs field low high table) (number_at field table)

-- `true` or `false`
unfoldable pub flag_wrongs : Field → Members → List Wrong
flag_wrongs field table = key_wrongs field as_bool nothing_wrong (held_at field table)

-- Letters.

-- there are as many as are due, where that is known
abbrev pub has_count : Option ℕ → List ℕ → Bool
has_count None letters = true
has_count (Some due) letters = length letters == due

-- the kinds of a slot
abbrev pub letters_wrongs : Option ℕ → ℕ → List ℕ → List Wrong
letters_wrongs rounds k letters =
    if has_count rounds letters && list_all is_kind letters then [] else wrong.Kinds k letters ∷ []

unfoldable pub kinds_wrongs : Option ℕ → ℕ → Members → List Wrong
kinds_wrongs rounds k table =
    let field = at_slot k names.Kinds in key_wrongs field as_str (letters_wrongs rounds k) (held_at field table)

-- the kinds themselves
abbrev pub kinds_known : Option ℕ → ℕ → Members → Option (List Kind)
kinds_known rounds k table = where_right (kinds_wrongs rounds k table) (kinds_at k table)

-- the modes in which a slot is live
abbrev pub answers_wrongs : Option ℕ → ℕ → List ℕ → List Wrong
answers_wrongs modes k letters =
    if has_count modes letters && list_all is_answer letters then [] else wrong.Live k letters ∷ []

unfoldable pub live_wrongs : Option ℕ → ℕ → Members → List Wrong
live_wrongs modes k table =
    let field = at_slot k names.Live in optional_wrongs field as_str (answers_wrongs modes k) (held_at field table)

-- A slot.

-- the largest payload of frames of these kinds, or of any where they are not known
abbrev pub data_limit : Option (List Kind) → ℕ
data_limit None = 240
data_limit (Some kinds) = payload_limit kinds

unfoldable pub data_wrongs : Option ℕ → ℕ → Members → List Wrong
data_wrongs rounds k table = number_wrongs (at_slot k names.DataSize) 0 (data_limit (kinds_known rounds k table)) table

-- the payload itself
abbrev pub payload_known : Option ℕ → ℕ → Members → Option ℕ
payload_known rounds k table = where_right (data_wrongs rounds k table) (number_at (at_slot k names.DataSize) table)

-- a slot that asks for modes has payload, where that is known
abbrev pub request_wrongs : ℕ → Option ℕ → Bool → List Wrong
request_wrongs k None requests = []
request_wrongs k (Some payload) requests = if requests && (payload == 0) then wrong.NoRequestData k ∷ [] else []

unfoldable pub requests_wrongs : ℕ → Option ℕ → Members → List Wrong
requests_wrongs k payload table =
    let field = at_slot k names.Requests in
    optional_wrongs field as_bool (request_wrongs k payload) (held_at field table)

-- all that is wrong with a slot's keys, in their order
unfoldable pub slot_wrongs : Option ℕ → Option ℕ → ℕ → Members → List Wrong
slot_wrongs rounds modes k table =
    kinds_wrongs rounds k table
    ++ (data_wrongs rounds k table
    ++ (flag_wrongs (at_slot k names.Sync) table
    ++ (flag_wrongs (at_slot k names.Start) table
    ++ (requests_wrongs k (payload_known rounds k table) table
    ++ live_wrongs modes k table))))

-- with those of some slots, the first of which has this number
abbrev pub slots_wrongs : Option ℕ → Option ℕ → ℕ → List Members → List Wrong
slots_wrongs rounds modes k [] = []
slots_wrongs rounds modes k (table ∷ tables) =
    slot_wrongs rounds modes k table ++ slots_wrongs rounds modes (suc k) tables

-- The array of slots.

-- its elements are tables
abbrev pub tables_wrongs : Field → Items → List Wrong
tables_wrongs field ds = if are_tables ds then [] else wrong.WrongKind field value_type.Array ∷ []

unfoldable pub array_wrongs : Members → List Wrong
array_wrongs file =
    let field = at_top names.Slot in key_wrongs field as_array (tables_wrongs field) (held_at field file)

-- the slots, where they are an array of tables
abbrev pub elements_of : Members → Option (List Members)
elements_of file = where_right (array_wrongs file) (slots_in file)

-- the most slots of a list of this version, or of any
abbrev pub count_limit : Option ℕ → ℕ
count_limit None = 24
count_limit (Some version) = slot_limit version

unfoldable pub count_wrongs : Option ℕ → ℕ → List Wrong
count_wrongs version n = if nat_le 4 n && nat_le n (count_limit version) then [] else wrong.SlotCount n ∷ []

-- Keys that no list has.

-- the keys of a table, in their order, and those that are not among some
abbrev pub keys_of : Members → List (List ℕ)
keys_of no_members = []
keys_of (member key d table) = key ∷ keys_of table

abbrev pub is_unknown_key : List FieldName → List ℕ → Bool
is_unknown_key known key = not (is_known_key known key)

abbrev pub unknown_keys : List FieldName → Members → List (List ℕ)
unknown_keys known table = filter (is_unknown_key known) (keys_of table)

unfoldable pub unknown_keys_at_top : Members → List Wrong
unknown_keys_at_top file = map (λ key. wrong.Unknown None key) (unknown_keys top_keys file)

unfoldable pub unknown_keys_at_slot : ℕ → Members → List Wrong
unknown_keys_at_slot k table = map (λ key. wrong.Unknown (Some k) key) (unknown_keys slot_keys table)

abbrev pub unknown_keys_in_slots : ℕ → List Members → List Wrong
unknown_keys_in_slots k [] = []
unknown_keys_in_slots k (table ∷ tables) = unknown_keys_at_slot k table ++ unknown_keys_in_slots (suc k) tables

-- Slots for clock synchronization.

-- whether slot k has `sync`, where it says so
abbrev pub sync_of : ℕ → Members → Option Bool
sync_of k table = where_right (flag_wrongs (at_slot k names.Sync) table) (flag_at (at_slot k names.Sync) table)

-- how many slots have, from number k on, where all of them say so
abbrev pub with_sync : Option Bool → Option ℕ → Option ℕ
with_sync None count = None
with_sync (Some sync) count = option_map (λ n. (if sync then 1 else 0) + n) count

abbrev pub sync_count : ℕ → List Members → Option ℕ
sync_count k [] = Some 0
sync_count k (table ∷ tables) = with_sync (sync_of k table) (sync_count (suc k) tables)

-- fewer than four have
abbrev pub few_syncs : Option ℕ → List Wrong
few_syncs None = []
few_syncs (Some found) = if nat_le 4 found then [] else wrong.NoSync found ∷ []

-- asked of as many slots as a list may have
unfoldable pub sync_wrongs : List Members → List Wrong
sync_wrongs slots =
    if nat_le 4 (length slots) && nat_le (length slots) 24 then few_syncs (sync_count 0 slots) else []

-- The whole table.

-- how many modes the cluster has
unfoldable pub modes_wrongs : Members → List Wrong
modes_wrongs file =
    let field = at_top names.Modes in optional_wrongs field as_integer (range_wrongs field 1 8) (held_at field file)

-- the version, the rounds and the modes, where they are right
abbrev pub version_known : Members → Option ℕ
version_known file = number_known (at_top names.Version) 1 2 file

abbrev pub rounds_known : Members → Option ℕ
rounds_known file = number_known (at_top names.Rounds) 1 64 file

abbrev pub modes_known : Members → Option ℕ
modes_known file = where_right (modes_wrongs file) (modes_in file)

-- what is wrong with the keys at the top
unfoldable pub top_wrongs : Members → List Wrong
top_wrongs file =
    number_wrongs (at_top names.Version) 1 2 file
    ++ (number_wrongs (at_top names.Rounds) 1 64 file
    ++ (number_wrongs (at_top names.Schedule) 0 16777215 file
    ++ (number_wrongs (at_top names.Buffers) 1 16 file
    ++ (number_wrongs (at_top names.Drift) 0 1000 file
    ++ (number_wrongs (at_top names.Error) 0 1000 file
    ++ (number_wrongs (at_top names.Window) 1 1000000 file
    ++ (array_wrongs file
    ++ modes_wrongs file)))))))

-- what is wrong with the slots, of which 24 are looked at, and with keys that no list has
abbrev pub below_wrongs : Members → Option (List Members) → List Wrong
below_wrongs file None = unknown_keys_at_top file
below_wrongs file (Some slots) =
    count_wrongs (version_known file) (length slots)
    ++ (slots_wrongs (rounds_known file) (modes_known file) 0 (take 24 slots)
    ++ (unknown_keys_at_top file
    ++ (unknown_keys_in_slots 0 (take 24 slots)
    ++ sync_wrongs slots)))

-- all that is wrong with the table of a file
unfoldable pub table_wrongs : Members → List Wrong
table_wrongs file = top_wrongs file ++ below_wrongs file (elements_of file)

-- A file that is no list.

-- the largest file, in bytes
abbrev pub list_limit : ℕ
list_limit = 1048576

-- it begins with the mark of UTF-16
abbrev pub has_utf16_mark : List ℕ → Bool
has_utf16_mark text =
    ((slice_index text 0 == 255) && (slice_index text 1 == 254))
    || ((slice_index text 0 == 254) && (slice_index text 1 == 255))

-- a byte with which no word goes on: a space, a tab, a line feed, or a carriage return before one or at the end
abbrev pub ends_word : ℕ → List ℕ → Bool
ends_word b bs =
    (b == space || b == tab)
    || (b == line_feed || ((b == carriage_return) && (length bs == 0 || first bs == line_feed)))

-- The text from the first word of the first line of a script that says something on. `inside` says that a comment has
-- begun.
abbrev pub said_from : Bool → List ℕ → List ℕ
said_from inside [] = []
said_from true (b ∷ bs) = said_from (not (b == line_feed)) bs
said_from false (b ∷ bs) =
    if ends_word b bs then said_from false bs else (if b == hash then said_from true bs else b ∷ bs)

-- no word goes on here
abbrev pub is_word_end : List ℕ → Bool
is_word_end [] = true
is_word_end (b ∷ bs) = ends_word b bs

-- that word is `slots`
abbrev pub begins_script : List ℕ → Bool
begins_script text = bytes_eq (codes "slots") (take 5 text) && is_word_end (drop 5 text)

-- what is wrong with a text that is no TOML
abbrev pub not_toml : List ℕ → Wrong
not_toml text =
    if has_utf16_mark text then wrong.Utf16 else (
    if begins_script (said_from false text) then wrong.IsScript (length text - length (said_from false text))
    else (if is_utf8 text then wrong.NotToml
    else wrong.NotUtf8 (utf8_valid_len text) (slice_index text (utf8_valid_len text))))

-- what is wrong with the table that a text is
abbrev pub document_wrongs : List ℕ → Option Members → List Wrong
document_wrongs text None = not_toml text ∷ []
document_wrongs text (Some file) = table_wrongs file

-- all that is wrong with the bytes of a list
unfoldable pub list_wrongs : List ℕ → List Wrong
list_wrongs text =
    if nat_lt list_limit (length text) then wrong.TooLarge ∷ [] else document_wrongs text (document_of text)

-- the rounds and the modes that a text says, where it is a document, not too large, and they are right in it
unfoldable pub rounds_said : List ℕ → Option ℕ
rounds_said text = if nat_lt list_limit (length text) then None else option_and_then rounds_known (document_of text)

unfoldable pub modes_said : List ℕ → Option ℕ
modes_said text = if nat_lt list_limit (length text) then None else option_and_then modes_known (document_of text)
