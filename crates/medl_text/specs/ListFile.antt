-- What a list file means: the list, or the first of its faults in the order of the format.
--
-- The faults of a file are one list, over whole tables: those of each key at the top in the keys' order, of the
-- number of slots, of each slot's keys, of keys that no list has, and of the number of slots with `sync`. A file with
-- no fault is the list of its values. A value that is missing or of another kind counts as 0, no or nothing, since a
-- fault that stands earlier is then the answer. Three keys may be absent: `modes` is then 1, `requests` is no, and
-- `live` names all modes.
use Rattle.std.specs.Prelude.{◌==◌, ℕ, suc, ◌+◌, ◌-◌, ◌*◌, ◌^◌, nat_le, ℤ, pos, negsuc, Bool, true, false, ◌&&◌, ◌||◌}
use Rattle.std.specs.Prelude.{List, [], ◌∷◌, ◌++◌, length, map, count_by, codes, Option, Some, None, option_and_then}
use Rattle.std.specs.Prelude.{unwrap_or, Result, Ok, Err, if◌then◌else◌, is_some}
use Rattle.std.specs.List.{list_all, list_any}
use Rattle.std.specs.Str.{bytes_eq, is_utf8}
use Rattle.toml.specs.Data.{Data, Items, no_items, item, Members, no_members, member, get_member, as_integer, as_str}
use Rattle.toml.specs.Data.{as_bool, as_array, as_table}
use Rattle.toml.specs.Parse.{parse_document}
use Rattle.ttp_world.specs.declared.medl.Kind.{Kind}
use Rattle.ttp_world.specs.declared.medl.Kind.TheVariants as kind
use Rattle.ttp_world.specs.declared.medl.SlotPlan.{SlotPlan}
use Rattle.ttp_world.specs.declared.medl.Medl.{Medl}
use Rattle.ttp_world.specs.Medl.{is_bare, member_bytes}
use Rattle.medl_text.specs.declared.error.FieldName.{FieldName}
use Rattle.medl_text.specs.declared.error.FieldName.TheVariants as names
use Rattle.medl_text.specs.declared.error.Field.{Field}
use Rattle.medl_text.specs.declared.error.MedlError.{MedlError}
use Rattle.medl_text.specs.declared.error.MedlError.TheVariants as errors

-- a key as it is spelled
abbrev pub key_text : FieldName → List ℕ
key_text names.Version = codes "version"
key_text names.Rounds = codes "rounds"
key_text names.Schedule = codes "schedule"
key_text names.Buffers = codes "buffers"
key_text names.Drift = codes "drift"
key_text names.Error = codes "error"
key_text names.Window = codes "window"
key_text names.Slot = codes "slot"
key_text names.Modes = codes "modes"
key_text names.Kinds = codes "kinds"
key_text names.DataSize = codes "data"
key_text names.Sync = codes "sync"
key_text names.Start = codes "start"
key_text names.Requests = codes "requests"
key_text names.Live = codes "live"

-- the keys at the top, and those of a slot, in their order
abbrev pub top_keys : List FieldName
top_keys =
    names.Version ∷ names.Rounds ∷ names.Schedule ∷ names.Buffers ∷ names.Drift ∷ names.Error ∷ names.Window
    ∷ names.Slot ∷ names.Modes ∷ []

abbrev pub slot_keys : List FieldName
slot_keys = names.Kinds ∷ names.DataSize ∷ names.Sync ∷ names.Start ∷ names.Requests ∷ names.Live ∷ []

-- a key at the top, and a key of a slot
abbrev pub at_top : FieldName → Field
at_top name = record { name = name; slot = None }

abbrev pub at_slot : ℕ → FieldName → Field
at_slot k name = record { name = name; slot = Some k }

-- what a table holds at a field's key
abbrev pub held_at : Field → Members → Option Data
held_at field table = get_member (key_text field.name) table

-- The faults of one key. It is there, it is of its kind, and what it holds is right.

-- the faults of what a key holds: it is of its kind, and right
abbrev pub kind_faults : {X : Type 0} → Field → (X → List MedlError) → Option X → List MedlError
kind_faults field faults None = errors.WrongKind field ∷ []
kind_faults field faults (Some x) = faults x

-- the faults of one key: it is there, it is of its kind, and what it holds is right
abbrev pub key_faults : {X : Type 0} → Field → (Data → Option X) → (X → List MedlError) → Option Data → List MedlError
key_faults field seen_as faults None = errors.Missing field ∷ []
key_faults field seen_as faults (Some d) = kind_faults field faults (seen_as d)

-- the faults of a key that may be absent: where it is there, it is of its kind, and what it holds is right
abbrev pub optional_faults : {X : Type 0} → Field → (Data → Option X) → (X → List MedlError) → Option Data
    → List MedlError
optional_faults field seen_as faults None = []
optional_faults field seen_as faults (Some d) = kind_faults field faults (seen_as d)

-- nothing is wrong with the value itself
abbrev pub none_of : {X : Type 0} → X → List MedlError
none_of x = []

-- a number in a range
abbrev pub is_within : ℕ → ℕ → ℤ → Bool
is_within low high (pos n) = nat_le low n && nat_le n high
is_within low high (negsuc n) = false

-- the fault of a number out of its range
abbrev pub range_faults : Field → ℕ → ℕ → ℤ → List MedlError
range_faults field low high z = if is_within low high z then [] else errors.OutOfRange field z ∷ []

-- the faults of a key that holds a number of a range
unfoldable pub number_faults : Field → ℕ → ℕ → Members → List MedlError
number_faults field low high table = key_faults field as_integer (range_faults field low high) (held_at field table)

-- the faults of a key that holds `true` or `false`
unfoldable pub flag_faults : Field → Members → List MedlError
flag_faults field table = key_faults field as_bool none_of (held_at field table)

-- The values of one key.

-- a number that is not negative; of another one 0
abbrev pub natural : ℤ → ℕ
natural (pos n) = n
natural (negsuc n) = 0

-- the number at a key, or another one where none is there
abbrev pub number_or : ℕ → Field → Members → ℕ
number_or other field table = natural (unwrap_or (option_and_then as_integer (held_at field table)) (pos other))

abbrev pub number_at : Field → Members → ℕ
number_at field table = number_or 0 field table

-- whether a key holds `true`
abbrev pub flag_at : Field → Members → Bool
flag_at field table = unwrap_or (option_and_then as_bool (held_at field table)) false

-- the text at a key
abbrev pub text_at : Field → Members → List ℕ
text_at field table = unwrap_or (option_and_then as_str (held_at field table)) []

-- the array at a key
abbrev pub items_at : Field → Members → Items
items_at field table = unwrap_or (option_and_then as_array (held_at field table)) no_items

-- A slot. Its kinds are letters, one for each round, and only frames of kind N and X carry payload.

-- a letter is `I`, `N` or `X`
abbrev pub is_kind : ℕ → Bool
is_kind letter = letter == 73 || (letter == 78 || letter == 88)

-- the kind of frame of a letter
abbrev pub kind_of : ℕ → Kind
kind_of letter = if letter == 78 then kind.N else (if letter == 88 then kind.X else kind.I)

-- the fault of a slot's kinds, if they have one: they are letters, one for each round
abbrev pub letters_faults : ℕ → ℕ → List ℕ → List MedlError
letters_faults rounds k letters =
    if length letters == rounds && list_all is_kind letters then [] else errors.Kinds k ∷ []

-- the faults of what a slot holds under `kinds`
unfoldable pub kinds_faults : ℕ → ℕ → Members → List MedlError
kinds_faults rounds k table =
    let field = at_slot k names.Kinds in key_faults field as_str (letters_faults rounds k) (held_at field table)

-- the kinds of slot k
abbrev pub kinds_at : ℕ → Members → List Kind
kinds_at k table = map kind_of (text_at (at_slot k names.Kinds) table)

-- the largest payload that frames of these kinds may have
abbrev pub payload_limit : List Kind → ℕ
payload_limit kinds = if list_all is_bare kinds then 0 else 240

-- a slot asks for modes by the first byte of its payload, so it has one
abbrev pub request_faults : ℕ → ℕ → Bool → List MedlError
request_faults k payload requests = if requests && (payload == 0) then errors.NoRequestData k ∷ [] else []

-- the faults of `requests` of slot k, if it has the key
unfoldable pub requests_faults : ℕ → ℕ → Members → List MedlError
requests_faults k payload table =
    let field = at_slot k names.Requests in
    optional_faults field as_bool (request_faults k payload) (held_at field table)

-- The modes in which a slot is live. They are letters, `y` or `n`, one for each mode.

-- a letter is `y` or `n`
abbrev pub is_answer : ℕ → Bool
is_answer letter = letter == 121 || letter == 110

-- the fault of a slot's modes, if they have one: they are letters, one for each mode
abbrev pub answers_faults : ℕ → ℕ → List ℕ → List MedlError
answers_faults modes k letters =
    if length letters == modes && list_all is_answer letters then [] else errors.Live k ∷ []

-- the faults of what a slot holds under `live`, if it holds something there
unfoldable pub live_faults : ℕ → ℕ → Members → List MedlError
live_faults modes k table =
    let field = at_slot k names.Live in optional_faults field as_str (answers_faults modes k) (held_at field table)

-- the number whose bit m is 1 where letter m is `y`
abbrev pub live_of : List ℕ → ℕ
live_of [] = 0
live_of (letter ∷ letters) = (if letter == 121 then 1 else 0) + 2 * live_of letters

-- the number of all modes
abbrev pub all_live : ℕ → ℕ
all_live modes = 2 ^ modes - 1

-- the modes of some letters, or all where none are told
abbrev pub live_or_all : ℕ → Option (List ℕ) → ℕ
live_or_all modes None = all_live modes
live_or_all modes (Some letters) = live_of letters

-- the modes in which slot k is live
abbrev pub live_at : ℕ → ℕ → Members → ℕ
live_at modes k table = live_or_all modes (option_and_then as_str (held_at (at_slot k names.Live) table))

-- The whole slot.

-- the faults of a whole slot, key by key
unfoldable pub slot_faults : ℕ → ℕ → ℕ → Members → List MedlError
slot_faults rounds modes k table =
    kinds_faults rounds k table
    ++ (number_faults (at_slot k names.DataSize) 0 (payload_limit (kinds_at k table)) table
    ++ (flag_faults (at_slot k names.Sync) table
    ++ (flag_faults (at_slot k names.Start) table
    ++ (requests_faults k (number_at (at_slot k names.DataSize) table) table
    ++ live_faults modes k table))))

-- the slot that a table without faults says
unfoldable pub slot_plan_of : ℕ → ℕ → Members → SlotPlan
slot_plan_of modes k table = record {
  kinds = kinds_at k table;
  payload = number_at (at_slot k names.DataSize) table;
  sync = flag_at (at_slot k names.Sync) table;
  start = flag_at (at_slot k names.Start) table;
  requests = flag_at (at_slot k names.Requests) table;
  live = live_at modes k table;
}

-- The array of slots.

-- all elements of an array are tables
abbrev pub are_tables : Items → Bool
are_tables no_items = true
are_tables (item d ds) = is_some (as_table d) && are_tables ds

-- the fault of an array whose elements are not all tables
abbrev pub tables_faults : Field → Items → List MedlError
tables_faults field ds = if are_tables ds then [] else errors.WrongKind field ∷ []

-- the faults of the array of slots: it is there, it is an array, and its elements are tables
unfoldable pub array_faults : Field → Members → List MedlError
array_faults field table = key_faults field as_array (tables_faults field) (held_at field table)

-- the elements, as tables
abbrev pub element_of : Data → Members
element_of d = unwrap_or (as_table d) no_members

-- the elements of an array
abbrev pub tables_of : Items → List Members
tables_of no_items = []
tables_of (item d ds) = element_of d ∷ tables_of ds

-- the slots of a file, as tables
abbrev pub slots_in : Members → List Members
slots_in file = tables_of (items_at (at_top names.Slot) file)

-- the most slots of a list of this version: one for each bit of a membership
abbrev pub slot_limit : ℕ → ℕ
slot_limit version = 8 * member_bytes (version == 2)

-- the fault of a list with too few slots or too many
unfoldable pub count_faults : ℕ → ℕ → List MedlError
count_faults version n = if nat_le 4 n && nat_le n (slot_limit version) then [] else errors.SlotCount n ∷ []

-- the faults of the slots from number k on
abbrev pub slots_faults : ℕ → ℕ → ℕ → List Members → List MedlError
slots_faults rounds modes k [] = []
slots_faults rounds modes k (table ∷ tables) =
    slot_faults rounds modes k table ++ slots_faults rounds modes (suc k) tables

-- the slots from number k on
abbrev pub plans_of : ℕ → ℕ → List Members → List SlotPlan
plans_of modes k [] = []
plans_of modes k (table ∷ tables) = slot_plan_of modes k table ∷ plans_of modes (suc k) tables

-- Keys that no list has.

-- a key is one of some
abbrev pub is_known_key : List FieldName → List ℕ → Bool
is_known_key known key = list_any (λ name. bytes_eq (key_text name) key) known

-- a table has no other keys than these
abbrev pub has_only : List FieldName → Members → Bool
has_only known no_members = true
has_only known (member key d table) = is_known_key known key && has_only known table

-- the fault of a file with a key at its top that no list has
abbrev pub unknown_at_top : Members → List MedlError
unknown_at_top file = if has_only top_keys file then [] else errors.Unknown None ∷ []

-- the fault of slot k with a key that no slot has
abbrev pub unknown_at_slot : ℕ → Members → List MedlError
unknown_at_slot k table = if has_only slot_keys table then [] else errors.Unknown (Some k) ∷ []

-- the faults of slots with keys that no slot has, the first of which has this number
abbrev pub unknown_in_slots : ℕ → List Members → List MedlError
unknown_in_slots k [] = []
unknown_in_slots k (table ∷ tables) = unknown_at_slot k table ++ unknown_in_slots (suc k) tables

-- Slots for clock synchronization.

-- the fault of slots of which fewer than four have sync
unfoldable pub sync_faults : List SlotPlan → List MedlError
sync_faults plans =
    let found = count_by (λ plan. plan.sync) plans in if nat_le 4 found then [] else errors.NoSync found ∷ []

-- The whole file.

-- how many modes the cluster has
unfoldable pub modes_faults : Members → List MedlError
modes_faults file =
    let field = at_top names.Modes in optional_faults field as_integer (range_faults field 1 8) (held_at field file)

abbrev pub modes_in : Members → ℕ
modes_in file = number_or 1 (at_top names.Modes) file

-- the faults of keys that no list has
unfoldable pub unknown_faults : Members → List MedlError
unknown_faults file = unknown_at_top file ++ unknown_in_slots 0 (slots_in file)

-- all faults of a file, in the order of the format
unfoldable pub file_faults : Members → List MedlError
file_faults file =
    let slots = slots_in file in
    number_faults (at_top names.Version) 1 2 file
    ++ (number_faults (at_top names.Rounds) 1 64 file
    ++ (number_faults (at_top names.Schedule) 0 16777215 file
    ++ (number_faults (at_top names.Buffers) 1 16 file
    ++ (number_faults (at_top names.Drift) 0 1000 file
    ++ (number_faults (at_top names.Error) 0 1000 file
    ++ (number_faults (at_top names.Window) 1 1000000 file
    ++ (array_faults (at_top names.Slot) file
    ++ (modes_faults file
    ++ (count_faults (number_at (at_top names.Version) file) (length slots)
    ++ (slots_faults (number_at (at_top names.Rounds) file) (modes_in file) 0 slots
    ++ (unknown_faults file
    ++ sync_faults (plans_of (modes_in file) 0 slots))))))))))))

-- the list that a file without faults says
unfoldable pub list_in : Members → Medl
list_in file = record {
  version = number_at (at_top names.Version) file;
  rounds = number_at (at_top names.Rounds) file;
  schedule = number_at (at_top names.Schedule) file;
  buffers = number_at (at_top names.Buffers) file;
  drift = pos (number_at (at_top names.Drift) file);
  error = pos (number_at (at_top names.Error) file);
  window = pos (number_at (at_top names.Window) file);
  modes = modes_in file;
  slots = plans_of (modes_in file) 0 (slots_in file);
}

-- the list, where nothing is wrong, and else the first fault
abbrev pub list_unless : List MedlError → Medl → Result Medl MedlError
list_unless [] list = Ok list
list_unless (fault ∷ faults) list = Err fault

-- the list of a file, or its first fault
unfoldable pub medl_in : Members → Result Medl MedlError
medl_in file = list_unless (file_faults file) (list_in file)

-- the list of a text that may be no document, or its first fault
abbrev pub medl_of_document : Option Members → Result Medl MedlError
medl_of_document None = Err errors.NotToml
medl_of_document (Some file) = medl_in file

-- the table that `toml` defines for the bytes, which are text
unfoldable pub document_of : List ℕ → Option Members
document_of bytes = if is_utf8 bytes then parse_document bytes else None

-- what the bytes of a file say: the list, or the first fault
unfoldable pub medl_of : List ℕ → Result Medl MedlError
medl_of bytes = medl_of_document (document_of bytes)
