-- Where the keys and the slots of a list stand. A place is told by the bytes that are left there.
use Rattle.std.specs.Prelude.{ℕ, zero, suc, Bool, true, false, ◌&&◌, ◌==◌, List, [], ◌∷◌, ◌++◌, length, drop, codes}
use Rattle.std.specs.Prelude.{Option, Some, None, Result, Ok, Err, if◌then◌else◌}
use Rattle.std.specs.Str.{bytes_eq}
use Rattle.toml_parser.specs.Lexical.{first, left_bracket, right_bracket, left_brace, right_brace, skip_blank}
use Rattle.toml_parser.specs.Strings.{Key}
use Rattle.toml.specs.Parse.{skip_bom}
use Rattle.toml_walk.specs.declared.halt.Halted.{Halted}
use Rattle.toml_walk.specs.declared.walk.What.{What}
use Rattle.toml_walk.specs.declared.walk.What.TheVariants as whats
use Rattle.toml_walk.specs.Walk.{ReadStatement, statement, member, element}

-- a key, and where it is written
pub record KeyPlace : Type 0 where
  pub key : List ℕ
  pub left : ℕ

-- where a slot stands, and its keys in the order of the text
pub record SlotPlace : Type 0 where
  pub left : ℕ
  pub keys : List KeyPlace

-- where the keys at the top and the slots stand, whether a header came, and whether the last one began a slot
pub record Marked : Type 0 where
  pub top : List KeyPlace
  pub slots : List SlotPlace
  pub has_headers : Bool
  pub is_in_slot : Bool

-- no statement came yet
abbrev pub nothing_marked : Marked
nothing_marked = record { top = []; slots = []; has_headers = false; is_in_slot = false }

-- a key that is written with so many bytes left
abbrev pub key_place : List ℕ → ℕ → KeyPlace
key_place k at = record { key = k; left = at }

-- a slot none of whose keys came yet
abbrev pub begun_slot : ℕ → SlotPlace
begun_slot at = record { left = at; keys = [] }

-- where a key is first written
abbrev pub first_left : List ℕ → List KeyPlace → Option ℕ
first_left key [] = None
first_left key (place ∷ places) = if bytes_eq place.key key then Some place.left else first_left key places

-- the first and the second part of a key with dots, and whether it is `slot` alone
abbrev pub first_part : Key → List ℕ
first_part ([], last) = last
first_part (part ∷ parts, last) = part

abbrev pub second_part : Key → Option (List ℕ)
second_part ([], last) = None
second_part (part ∷ [], last) = Some last
second_part (part ∷ next ∷ parts, last) = Some next

abbrev pub is_slot_key : Key → Bool
is_slot_key ([], last) = bytes_eq last (codes "slot")
is_slot_key (part ∷ parts, last) = false

-- what follows what was read, and nothing where the reading stops
abbrev pub as_far : {A B : Type 0} → Result A Halted → (A → List B) → List B
as_far (Ok x) f = f x
as_far (Err h) f = []

-- the keys of the rest of an inline table, of fewer than n members, as far as it can be read
unfoldable pub member_places : ℕ → List ℕ → List KeyPlace
member_places zero text = []
member_places (suc n) text =
    let start = skip_blank text in
    if first start == right_brace then []
    else as_far (member start) (λ m. key_place (first_part m.0) (length start) ∷ member_places n m.1)

-- the keys of an element of an array, which are those of its inline table, and the slot that it is
abbrev pub element_keys : List ℕ → List KeyPlace
element_keys text = if first text == left_brace then member_places (length text) (drop 1 text) else []

abbrev pub element_place : List ℕ → SlotPlace
element_place text = record { left = length text; keys = element_keys text }

-- the slots of the rest of an array, of fewer than n elements, as far as it can be read
unfoldable pub element_places : ℕ → List ℕ → List SlotPlace
element_places zero text = []
element_places (suc n) text =
    let start = skip_blank text in
    if first start == right_bracket then []
    else as_far (element start) (λ rest. element_place start ∷ element_places n rest)

-- a key more of the last slot
abbrev pub in_last : List SlotPlace → List ℕ → ℕ → List SlotPlace
in_last [] key left = []
in_last (slot ∷ []) key left = record { left = slot.left; keys = slot.keys ++ key_place key left ∷ [] } ∷ []
in_last (slot ∷ next ∷ slots) key left = slot ∷ in_last (next ∷ slots) key left

-- the slots of a pair at the top
abbrev pub pair_slots : Key → List ℕ → List SlotPlace
pair_slots key text =
    if is_slot_key key && (first text == left_bracket) then element_places (length text) (drop 1 text) else []

-- marks with these slots, and with a slot more
abbrev pub with_these_slots : Marked → List SlotPlace → Marked
with_these_slots m places =
    record { top = m.top; slots = places; has_headers = m.has_headers; is_in_slot = m.is_in_slot }

abbrev pub with_begun_slot : Marked → ℕ → Marked
with_begun_slot m at = with_these_slots m (m.slots ++ begun_slot at ∷ [])

-- a pair below a header
abbrev pub pair_below : Marked → ℕ → Key → Marked
pair_below m left key = if m.is_in_slot then with_these_slots m (in_last m.slots (first_part key) left) else m

-- a key more at the top
abbrev pub with_top : Marked → ℕ → Key → Marked
with_top m left key = record {
  top = m.top ++ key_place (first_part key) left ∷ [];
  slots = m.slots;
  has_headers = m.has_headers;
  is_in_slot = m.is_in_slot;
}

-- a pair above all headers
abbrev pub pair_at_top : Marked → ℕ → Key → List ℕ → Marked
pair_at_top m left key text = with_these_slots (with_top m left key) (m.slots ++ pair_slots key text)

-- a key of the last slot by its header
abbrev pub part_by_header : List SlotPlace → Key → ℕ → Option (List ℕ) → List SlotPlace
part_by_header slots key left None = slots
part_by_header slots key left (Some part) =
    if bytes_eq (first_part key) (codes "slot") then in_last slots part left else slots

abbrev pub by_header : List SlotPlace → Key → ℕ → List SlotPlace
by_header slots key left = part_by_header slots key left (second_part key)

-- a header came, and it began a slot or none
abbrev pub behind_header : Marked → Bool → Marked
behind_header m begins_slot =
    record { top = m.top; slots = m.slots; has_headers = true; is_in_slot = begins_slot }

-- a header, which begins a slot, or names a key of the last one, or neither
abbrev pub after_header : Marked → ℕ → Key → Bool → Marked
after_header m left key begins_slot =
    let top = with_top (behind_header m begins_slot) left key in
    if begins_slot then with_begun_slot top left else with_these_slots top (by_header m.slots key left)

-- what a statement of each kind adds
abbrev pub after_what : Marked → ℕ → Key → List ℕ → What → Marked
after_what m left key text whats.Pair = if m.has_headers then pair_below m left key else pair_at_top m left key text
after_what m left key text whats.Header = after_header m left key false
after_what m left key text whats.Element = after_header m left key (is_slot_key key)

-- the marks behind a statement
abbrev pub after_statement : Marked → ℕ → ReadStatement → Marked
after_statement m left s = after_what m left s.key s.value s.what

-- those behind a statement and what follows it, or those so far where the reading stops
abbrev pub marks_behind : (Marked → List ℕ → Marked) → Marked → ℕ → Result (ReadStatement × List ℕ) Halted → Marked
marks_behind more m left (Ok s) = more (after_statement m left s.0) s.1
marks_behind more m left (Err h) = m

-- the marks behind the rest of a text, of fewer than n statements, as far as it can be read
unfoldable pub marks_from : ℕ → Marked → List ℕ → Marked
marks_from zero m text = m
marks_from (suc n) m text =
    let start = skip_blank text in
    if length start == 0 then m else marks_behind (marks_from n) m (length start) (statement start)

-- the marks of a text
unfoldable pub marks_of : List ℕ → Marked
marks_of text = marks_from (suc (length text)) nothing_marked (skip_bom text)
