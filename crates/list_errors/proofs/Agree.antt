-- Part for part the errors of a list begin with the first fault that the reader of lists looks for, as long as no part
-- before has one.
use Rattle.std.proofs.Common.{◌≡◌, ℕ, suc, ◌≤◌, Bool, true, false, List, [], ◌∷◌, ◌++◌, Option, Some, None, refl, ap}
use Rattle.std.proofs.Common.{◌∙◌, sym, inl, inr, arith, length, map}
use Rattle.std.specs.Prelude.{◌⊎◌, ◌+◌, ◌&&◌, ◌==◌, ◌*◌, not, nat_le, count_by, if◌then◌else◌}
use Rattle.std.specs.List.{list_all}
use Rattle.std.proofs.lemmas.Bool.{and_parts, leb-true}
use Rattle.std.proofs.lemmas.List.Sums.{sum_by-cons}
use Rattle.toml.specs.Data.{Data, Members, no_members, member, as_integer, as_bool, as_str, as_array}
use Rattle.ttp_base.specs.Faults.{first_fault}
use Rattle.ttp_world.specs.Medl.{member_bytes}
use Rattle.ttp_world.specs.declared.medl.SlotPlan.{SlotPlan}
use Rattle.medl_text.specs.declared.error.FieldName.{FieldName}
use Rattle.medl_text.specs.declared.error.FieldName.TheVariants as names
use Rattle.medl_text.specs.declared.error.Field.{Field}
use Rattle.medl_text.specs.declared.error.MedlError.{MedlError}
use Rattle.medl_text.specs.declared.error.MedlError.TheVariants as faults
use Rattle.medl_text.specs.ListFile.{at_top, at_slot, held_at, kind_faults, key_faults}
use Rattle.medl_text.specs.ListFile.{optional_faults, range_faults, none_of}
use Rattle.medl_text.specs.ListFile.{is_within, is_kind, is_answer, are_tables}
use Rattle.medl_text.specs.ListFile.{number_faults, flag_faults, kinds_faults}
use Rattle.medl_text.specs.ListFile.{payload_limit, kinds_at, number_at, flag_at, requests_faults}
use Rattle.medl_text.specs.ListFile.{request_faults, live_faults}
use Rattle.medl_text.specs.ListFile.{letters_faults, answers_faults, slot_faults, slot_plan_of, plans_of, slots_faults}
use Rattle.medl_text.specs.ListFile.{tables_faults, array_faults, count_faults, slot_limit}
use Rattle.medl_text.specs.ListFile.{is_known_key, has_only, top_keys}
use Rattle.medl_text.specs.ListFile.{slot_keys, sync_faults, modes_faults}
use Rattle.medl_text.specs.ListFile.{unknown_in_slots as reader_unknown}
use Rattle.list_errors.specs.declared.error.Wrong.{Wrong}
use Rattle.list_errors.specs.declared.error.Wrong.TheVariants as wrong
use Rattle.list_errors.specs.Agrees.{list_fault}
use Rattle.list_errors.specs.Errors.{kind_wrongs, key_wrongs, optional_wrongs, nothing_wrong}
use Rattle.list_errors.specs.Errors.{range_wrongs, number_wrongs}
use Rattle.list_errors.specs.Errors.{flag_wrongs, letters_wrongs, kinds_wrongs, answers_wrongs, live_wrongs}
use Rattle.list_errors.specs.Errors.{data_wrongs, payload_known, request_wrongs, requests_wrongs, slot_wrongs}
use Rattle.list_errors.specs.Errors.{slots_wrongs, tables_wrongs, array_wrongs, count_wrongs, unknown_keys}
use Rattle.list_errors.specs.Errors.{unknown_keys_at_top, unknown_keys_at_slot, unknown_keys_in_slots}
use Rattle.list_errors.specs.Errors.{sync_count, few_syncs}
use Rattle.list_errors.specs.Errors.{sync_wrongs, modes_wrongs}

-- nothing is wrong by either, or the reader's first fault is what is wrong first
abbrev pub Outcome : List Wrong → List MedlError → Type 0
Outcome told found =
    ((told ≡ []) × (found ≡ []))
    ⊎ ((fault : MedlError) × ((first_fault (map list_fault told) ≡ Some fault) × (first_fault found ≡ Some fault)))

told_behind : (front more : List Wrong) (fault : MedlError) → first_fault (map list_fault front) ≡ Some fault
    → first_fault (map list_fault (front ++ more)) ≡ Some fault
told_behind [] more fault h = absurd cc
told_behind (w ∷ ws) more fault h = h

found_behind : (front more : List MedlError) (fault : MedlError) → first_fault front ≡ Some fault
    → first_fault (front ++ more) ≡ Some fault
found_behind [] more fault h = absurd cc
found_behind (x ∷ xs) more fault h = h

-- one part behind another
pub both : (told more : List Wrong) (found next : List MedlError) → Outcome told found
    → (told ≡ [] → Outcome more next) → Outcome (told ++ more) (found ++ next)
both told more found next (inl none) behind = rw (none.0, none.1) (behind none.0)
both told more found next (inr (fault, (first, is))) behind =
    inr (fault, (told_behind told more fault first, found_behind found next fault is))

-- one thing may be wrong
by_test : (right : Bool) (w : Wrong)
    → Outcome (if right then [] else w ∷ []) (if right then [] else list_fault w ∷ [])
by_test true w = inl (refl, refl)
by_test false w = inr (list_fault w, (refl, refl))

-- where this holds
in_test : (wrong_there : Bool) (w : Wrong)
    → Outcome (if wrong_there then w ∷ [] else []) (if wrong_there then list_fault w ∷ [] else [])
in_test true w = inr (list_fault w, (refl, refl))
in_test false w = inl (refl, refl)

-- Keys.

kind_agrees : {X : Type 0} (field : Field) (d : Data) (wrongs : X → List Wrong) (found : X → List MedlError)
    (seen : Option X) → ((x : X) → Outcome (wrongs x) (found x))
    → Outcome (kind_wrongs field d wrongs seen) (kind_faults field found seen)
kind_agrees field d wrongs found None each = inr (faults.WrongKind field, (refl, refl))
kind_agrees field d wrongs found (Some x) each = each x

key_agrees : {X : Type 0} (field : Field) (seen_as : Data → Option X) (wrongs : X → List Wrong)
    (found : X → List MedlError) (held : Option Data) → ((x : X) → Outcome (wrongs x) (found x))
    → Outcome (key_wrongs field seen_as wrongs held) (key_faults field seen_as found held)
key_agrees field seen_as wrongs found None each = inr (faults.Missing field, (refl, refl))
key_agrees field seen_as wrongs found (Some d) each = kind_agrees field d wrongs found (seen_as d) each

optional_agrees : {X : Type 0} (field : Field) (seen_as : Data → Option X) (wrongs : X → List Wrong)
    (found : X → List MedlError) (held : Option Data) → ((x : X) → Outcome (wrongs x) (found x))
    → Outcome (optional_wrongs field seen_as wrongs held) (optional_faults field seen_as found held)
optional_agrees field seen_as wrongs found None each = inl (refl, refl)
optional_agrees field seen_as wrongs found (Some d) each = kind_agrees field d wrongs found (seen_as d) each

pub number_agrees : (field : Field) (low high : ℕ) (table : Members)
    → Outcome (number_wrongs field low high table) (number_faults field low high table)
unfolding number_wrongs number_faults
number_agrees field low high table =
    key_agrees field as_integer (range_wrongs field low high) (range_faults field low high) (held_at field table)
    (λ z. by_test (is_within low high z) (wrong.OutOfRange field z low high))

flag_agrees : (field : Field) (table : Members) → Outcome (flag_wrongs field table) (flag_faults field table)
unfolding flag_wrongs flag_faults
flag_agrees field table =
    key_agrees field as_bool nothing_wrong none_of (held_at field table) (λ b. inl (refl, refl))

pub modes_agree : (file : Members) → Outcome (modes_wrongs file) (modes_faults file)
unfolding modes_wrongs modes_faults
modes_agree file =
    optional_agrees (at_top names.Modes) as_integer (range_wrongs (at_top names.Modes) 1 8)
    (range_faults (at_top names.Modes) 1 8) (held_at (at_top names.Modes) file)
    (λ z. by_test (is_within 1 8 z) (wrong.OutOfRange (at_top names.Modes) z 1 8))

pub array_agrees : (file : Members) → Outcome (array_wrongs file) (array_faults (at_top names.Slot) file)
unfolding array_wrongs array_faults
array_agrees file =
    key_agrees (at_top names.Slot) as_array (tables_wrongs (at_top names.Slot)) (tables_faults (at_top names.Slot))
    (held_at (at_top names.Slot) file) (λ ds. by_test (are_tables ds) _)

-- Slots.

kinds_agree : (rounds k : ℕ) (table : Members)
    → Outcome (kinds_wrongs (Some rounds) k table) (kinds_faults rounds k table)
unfolding kinds_wrongs kinds_faults
kinds_agree rounds k table =
    key_agrees (at_slot k names.Kinds) as_str (letters_wrongs (Some rounds) k) (letters_faults rounds k)
    (held_at (at_slot k names.Kinds) table)
    (λ letters. by_test ((length letters == rounds) && list_all is_kind letters) (wrong.Kinds k letters))

live_agrees : (modes k : ℕ) (table : Members) → Outcome (live_wrongs (Some modes) k table) (live_faults modes k table)
unfolding live_wrongs live_faults
live_agrees modes k table =
    optional_agrees (at_slot k names.Live) as_str (answers_wrongs (Some modes) k) (answers_faults modes k)
    (held_at (at_slot k names.Live) table)
    (λ letters. by_test ((length letters == modes) && list_all is_answer letters) (wrong.Live k letters))

data_agrees : (rounds k : ℕ) (table : Members) → kinds_wrongs (Some rounds) k table ≡ []
    → Outcome (data_wrongs (Some rounds) k table)
    (number_faults (at_slot k names.DataSize) 0 (payload_limit (kinds_at k table)) table)
unfolding data_wrongs
data_agrees rounds k table right =
    rw right (number_agrees (at_slot k names.DataSize) 0 (payload_limit (kinds_at k table)) table)

requests_agree : (k payload : ℕ) (table : Members)
    → Outcome (requests_wrongs k (Some payload) table) (requests_faults k payload table)
unfolding requests_wrongs requests_faults
requests_agree k payload table =
    optional_agrees (at_slot k names.Requests) as_bool (request_wrongs k (Some payload)) (request_faults k payload)
    (held_at (at_slot k names.Requests) table)
    (λ requests. in_test (requests && (payload == 0)) (wrong.NoRequestData k))

payload_is_known : (rounds : Option ℕ) (k : ℕ) (table : Members) → data_wrongs rounds k table ≡ []
    → payload_known rounds k table ≡ Some (number_at (at_slot k names.DataSize) table)
payload_is_known rounds k table right = rw right refl

requests_there : (rounds k : ℕ) (table : Members) → data_wrongs (Some rounds) k table ≡ []
    → Outcome (requests_wrongs k (payload_known (Some rounds) k table) table)
    (requests_faults k (number_at (at_slot k names.DataSize) table) table)
requests_there rounds k table right =
    rw (payload_is_known (Some rounds) k table right)
    (requests_agree k (number_at (at_slot k names.DataSize) table) table)

slot_agrees : (rounds modes k : ℕ) (table : Members)
    → Outcome (slot_wrongs (Some rounds) (Some modes) k table) (slot_faults rounds modes k table)
unfolding slot_wrongs slot_faults
slot_agrees rounds modes k table =
    both _ _ _ _ (kinds_agree rounds k table) (λ kinds.
    both _ _ _ _ (data_agrees rounds k table kinds) (λ bytes.
    both _ _ _ _ (flag_agrees (at_slot k names.Sync) table) (λ sync.
    both _ _ _ _ (flag_agrees (at_slot k names.Start) table) (λ start.
    both _ _ _ _ (requests_there rounds k table bytes) (λ requests. live_agrees modes k table)))))

pub slots_agree : (rounds modes k : ℕ) (tables : List Members)
    → Outcome (slots_wrongs (Some rounds) (Some modes) k tables) (slots_faults rounds modes k tables)
slots_agree rounds modes k [] = inl (refl, refl)
slots_agree rounds modes k (table ∷ tables) =
    both _ _ _ _ (slot_agrees rounds modes k table) (λ right. slots_agree rounds modes (suc k) tables)

-- Keys that no list has.

one_key : (slot : Option ℕ) (known : List FieldName) (key : List ℕ) (table : Members) (is_known : Bool)
    → Outcome (map (λ k. wrong.Unknown slot k) (unknown_keys known table))
    (if has_only known table then [] else faults.Unknown slot ∷ [])
    → Outcome (map (λ k. wrong.Unknown slot k)
    (if not is_known then key ∷ unknown_keys known table else unknown_keys known table))
    (if (is_known && has_only known table) then [] else faults.Unknown slot ∷ [])
one_key slot known key table true rest = rest
one_key slot known key table false rest = inr (faults.Unknown slot, (refl, refl))

unknown_agrees : (slot : Option ℕ) (known : List FieldName) (table : Members)
    → Outcome (map (λ k. wrong.Unknown slot k) (unknown_keys known table))
    (if has_only known table then [] else faults.Unknown slot ∷ [])
unknown_agrees slot known no_members = inl (refl, refl)
unknown_agrees slot known (member key d table) =
    one_key slot known key table (is_known_key known key) (unknown_agrees slot known table)

pub top_unknown : (file : Members)
    → Outcome (unknown_keys_at_top file) (if has_only top_keys file then [] else faults.Unknown None ∷ [])
unfolding unknown_keys_at_top
top_unknown file = unknown_agrees None top_keys file

slot_unknown : (k : ℕ) (table : Members)
    → Outcome (unknown_keys_at_slot k table) (if has_only slot_keys table then [] else faults.Unknown (Some k) ∷ [])
unfolding unknown_keys_at_slot
slot_unknown k table = unknown_agrees (Some k) slot_keys table

pub slots_unknown : (k : ℕ) (tables : List Members) → Outcome (unknown_keys_in_slots k tables) (reader_unknown k tables)
slots_unknown k [] = inl (refl, refl)
slots_unknown k (table ∷ tables) =
    both _ _ _ _ (slot_unknown k table) (λ right. slots_unknown (suc k) tables)

-- Slots for clock synchronization.

pub front_right : (some more : List Wrong) → some ++ more ≡ [] → some ≡ []
front_right [] more none = refl
front_right (w ∷ some) more none = absurd cc

pub back_right : (some more : List Wrong) → some ++ more ≡ [] → more ≡ []
back_right [] more none = none
back_right (w ∷ some) more none = absurd cc

sync_right : (rounds modes : Option ℕ) (k : ℕ) (table : Members) → slot_wrongs rounds modes k table ≡ []
    → flag_wrongs (at_slot k names.Sync) table ≡ []
unfolding slot_wrongs
sync_right rounds modes k table none =
    front_right (flag_wrongs (at_slot k names.Sync) table) _
    (back_right (data_wrongs rounds k table) _ (back_right (kinds_wrongs rounds k table) _ none))

plan_syncs : (modes k : ℕ) (table : Members) → (slot_plan_of modes k table).sync ≡ flag_at (at_slot k names.Sync) table
unfolding slot_plan_of
plan_syncs modes k table = refl

syncs_agree : (rounds : Option ℕ) (modes k : ℕ) (tables : List Members)
    → slots_wrongs rounds (Some modes) k tables ≡ []
    → sync_count k tables ≡ Some (count_by (λ plan. plan.sync) (plans_of modes k tables))
syncs_agree rounds modes k [] none = refl
syncs_agree rounds modes k (table ∷ tables) none =
    let here = sync_right rounds (Some modes) k table (front_right (slot_wrongs rounds (Some modes) k table) _ none) in
    let rest = syncs_agree rounds modes (suc k) tables
    (back_right (slot_wrongs rounds (Some modes) k table) (slots_wrongs rounds (Some modes) (suc k) tables) none) in
    let more : count_by (λ (plan : SlotPlan). plan.sync) (plans_of modes k (table ∷ tables))
    ≡ (if flag_at (at_slot k names.Sync) table then 1 else 0)
    + count_by (λ (plan : SlotPlan). plan.sync) (plans_of modes (suc k) tables) =
    sum_by-cons (λ (plan : SlotPlan). if plan.sync then 1 else 0)
    (slot_plan_of modes k table) (plans_of modes (suc k) tables)
    ∙ ap (λ (b : Bool). (if b then 1 else 0)
    + count_by (λ (plan : SlotPlan). plan.sync) (plans_of modes (suc k) tables))
    (plan_syncs modes k table) in
    rw (here, rest) (ap Some (sym more))

few_agree : (found : ℕ) → Outcome (few_syncs (Some found)) (if nat_le 4 found then [] else faults.NoSync found ∷ [])
few_agree found = by_test (nat_le 4 found) (wrong.NoSync found)

pub sync_agrees : (rounds modes : ℕ) (tables : List Members) → slots_wrongs (Some rounds) (Some modes) 0 tables ≡ []
    → (nat_le 4 (length tables) && nat_le (length tables) 24) ≡ true
    → Outcome (sync_wrongs tables) (sync_faults (plans_of modes 0 tables))
unfolding sync_wrongs sync_faults
sync_agrees rounds modes tables right count =
    rw (count, syncs_agree (Some rounds) modes 0 tables right)
    (few_agree (count_by (λ plan. plan.sync) (plans_of modes 0 tables)))

-- The number of slots.

pub count_agrees : (version n : ℕ) → Outcome (count_wrongs (Some version) n) (count_faults version n)
unfolding count_wrongs count_faults
count_agrees version n = by_test (nat_le 4 n && nat_le n (slot_limit version)) (wrong.SlotCount n)

tested : (right : Bool) (w : Wrong) → (if right then [] else w ∷ []) ≡ [] → right ≡ true
tested true w none = refl
tested false w none = absurd cc

limited : (wide : Bool) → 8 * member_bytes wide ≤ 24
limited true = omega arith
limited false = omega arith

pub count_right : (version n : ℕ) → count_wrongs (Some version) n ≡ [] → (4 ≤ n) × (n ≤ 24)
unfolding count_wrongs
count_right version n none =
    let within = and_parts (nat_le 4 n) (nat_le n (slot_limit version))
    (tested (nat_le 4 n && nat_le n (slot_limit version)) _ none) in
    let below = leb-true n (slot_limit version) within.1 in
    let most = limited (version == 2) in
    (leb-true 4 n within.0, omega arith)
