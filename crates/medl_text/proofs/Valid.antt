-- A list that the bytes of a file say is valid.
use Rattle.std.proofs.Common.{◌≡◌, ℕ, zero, suc, ◌<◌, ◌≤◌, Bool, true, false, List, [], ◌∷◌, ◌++◌, length, refl, ◌∙◌}
use Rattle.std.proofs.Common.{Option, Some, None, Result, Ok, Err, sym, subst, arith}
use Rattle.std.specs.Prelude.{ℤ, pos, negsuc, ◌^◌, ◌==◌, ◌&&◌, nat_le, map, count_by, unwrap_or, option_and_then}
use Rattle.std.specs.Prelude.{IfOk, IsTrue, if◌then◌else◌}
use Rattle.std.specs.List.{list_all, AllByRecursion}
use Rattle.std.proofs.Math.Nat.{pow-succ'}
use Rattle.std.proofs.Math.Pow.{pow-sub-lt}
use Rattle.std.proofs.lemmas.Bool.{and_parts, leb-true, eqb-true}
use Rattle.std.proofs.lemmas.Int.{ints}
use Rattle.std.proofs.lemmas.List.{length-map}
use Rattle.toml.specs.Data.{Data, Members, as_integer, as_str, as_bool}
use Rattle.ttp_world.specs.declared.medl.Medl.{Medl}
use Rattle.ttp_world.specs.declared.medl.SlotPlan.{SlotPlan}
use Rattle.ttp_world.specs.Medl.{is_bare, IsWithin, IsValidSlot, IsValid}
use Rattle.medl_text.specs.declared.error.Field.{Field}
use Rattle.medl_text.specs.declared.error.FieldName.TheVariants as names
use Rattle.medl_text.specs.declared.error.MedlError.{MedlError}
use Rattle.medl_text.specs.ListFile.{at_top, at_slot, held_at, kind_faults, key_faults, optional_faults, range_faults}
use Rattle.medl_text.specs.ListFile.{number_faults, flag_faults, natural, number_at, flag_at, kind_of, letters_faults}
use Rattle.medl_text.specs.ListFile.{kinds_faults, kinds_at, payload_limit, request_faults, requests_faults}
use Rattle.medl_text.specs.ListFile.{answers_faults, live_faults, live_of, live_or_all, live_at, slot_faults}
use Rattle.medl_text.specs.ListFile.{slot_plan_of, array_faults, slots_in, slot_limit, count_faults, slots_faults}
use Rattle.medl_text.specs.ListFile.{plans_of, unknown_faults, sync_faults, modes_faults, modes_in, file_faults}
use Rattle.medl_text.specs.ListFile.{list_in, list_unless, medl_in, medl_of_document, document_of, medl_of}
use Rattle.medl_text.proofs.Counts.{length-plans_of}

-- Where a file has no fault, no part of it has.

none_both : (some others : List MedlError) → some ++ others ≡ [] → (some ≡ []) × (others ≡ [])
none_both [] others none = (refl, none)
none_both (fault ∷ some) others none = absurd (cc)

checked : (right : Bool) (fault : MedlError) → (if right then [] else fault ∷ []) ≡ [] → right ≡ true
checked true fault none = refl
checked false fault none = absurd (cc)

-- Numbers.

in_range : (field : Field) (low high : ℕ) (z : ℤ) → range_faults field low high z ≡ []
    → (low ≤ natural z) × (natural z ≤ high)
in_range field low high (pos n) none =
    let both = and_parts (nat_le low n) (nat_le n high) (checked (nat_le low n && nat_le n high) _ none) in
    (leb-true low n both.0, leb-true n high both.1)
in_range field low high (negsuc n) none = absurd (cc)

number_seen : (field : Field) (low high other : ℕ) (z : Option ℤ)
    → kind_faults field (range_faults field low high) z ≡ []
    → (low ≤ natural (unwrap_or z (pos other))) × (natural (unwrap_or z (pos other)) ≤ high)
number_seen field low high other None none = absurd (cc)
number_seen field low high other (Some z) none = in_range field low high z none

number_held : (field : Field) (low high : ℕ) (held : Option Data)
    → key_faults field as_integer (range_faults field low high) held ≡ []
    → (low ≤ natural (unwrap_or (option_and_then as_integer held) (pos 0)))
    × (natural (unwrap_or (option_and_then as_integer held) (pos 0)) ≤ high)
number_held field low high None none = absurd (cc)
number_held field low high (Some d) none = number_seen field low high 0 (as_integer d) none

number_right : (field : Field) (low high : ℕ) (table : Members) → number_faults field low high table ≡ []
    → (low ≤ number_at field table) × (number_at field table ≤ high)
unfolding number_faults
number_right field low high table none = number_held field low high (held_at field table) none

IsWithin-number : (field : Field) (low high : ℕ) (table : Members) → number_faults field low high table ≡ []
    → IsWithin low high (pos (number_at field table))
IsWithin-number field low high table none =
    let range = number_right field low high table none in
    (omega (arith, ints), omega (arith, ints))

modes_held : (field : Field) (held : Option Data)
    → optional_faults field as_integer (range_faults field 1 8) held ≡ []
    → (1 ≤ natural (unwrap_or (option_and_then as_integer held) (pos 1)))
    × (natural (unwrap_or (option_and_then as_integer held) (pos 1)) ≤ 8)
modes_held field None none = (omega arith, omega arith)
modes_held field (Some d) none = number_seen field 1 8 1 (as_integer d) none

modes_right : (file : Members) → modes_faults file ≡ [] → (1 ≤ modes_in file) × (modes_in file ≤ 8)
unfolding modes_faults
modes_right file none = modes_held (at_top names.Modes) (held_at (at_top names.Modes) file) none

-- The kinds of a slot, and the payload that they may carry.

kinds_seen : (field : Field) (rounds k : ℕ) (letters : Option (List ℕ))
    → kind_faults field (letters_faults rounds k) letters ≡ [] → length (map kind_of (unwrap_or letters [])) ≡ rounds
kinds_seen field rounds k None none = absurd (cc)
kinds_seen field rounds k (Some letters) none =
    length-map letters kind_of
    ∙ eqb-true (length letters) rounds (and_parts (length letters == rounds) _ (checked _ _ none)).0

kinds_held : (field : Field) (rounds k : ℕ) (held : Option Data)
    → key_faults field as_str (letters_faults rounds k) held ≡ []
    → length (map kind_of (unwrap_or (option_and_then as_str held) [])) ≡ rounds
kinds_held field rounds k None none = absurd (cc)
kinds_held field rounds k (Some d) none = kinds_seen field rounds k (as_str d) none

kinds_right : (rounds k : ℕ) (table : Members) → kinds_faults rounds k table ≡ []
    → length (kinds_at k table) ≡ rounds
unfolding kinds_faults
kinds_right rounds k table none =
    kinds_held (at_slot k names.Kinds) rounds k (held_at (at_slot k names.Kinds) table) none

payload_few : (bare : Bool) (payload : ℕ) → payload ≤ (if bare then 0 else 240) → payload ≤ 240
payload_few true payload most = omega (arith, most)
payload_few false payload most = most

payload_bare : (bare : Bool) (payload : ℕ) → payload ≤ (if bare then 0 else 240) → bare ≡ true → payload ≡ 0
payload_bare true payload most is = omega (arith, most)
payload_bare false payload most is = absurd (cc)

-- Requests, and the modes in which a slot is live.

some_payload : (k payload : ℕ) (requests : Bool) → request_faults k payload requests ≡ [] → requests ≡ true
    → 1 ≤ payload
some_payload k zero true none is = absurd (cc)
some_payload k (suc payload) true none is = omega arith
some_payload k payload false none is = absurd (cc)

requests_seen : (field : Field) (k payload : ℕ) (requests : Option Bool)
    → kind_faults field (request_faults k payload) requests ≡ [] → unwrap_or requests false ≡ true → 1 ≤ payload
requests_seen field k payload None none is = absurd (cc)
requests_seen field k payload (Some requests) none is = some_payload k payload requests none is

requests_held : (field : Field) (k payload : ℕ) (held : Option Data)
    → optional_faults field as_bool (request_faults k payload) held ≡ []
    → unwrap_or (option_and_then as_bool held) false ≡ true → 1 ≤ payload
requests_held field k payload None none is = absurd (cc)
requests_held field k payload (Some d) none is = requests_seen field k payload (as_bool d) none is

requests_right : (k payload : ℕ) (table : Members) → requests_faults k payload table ≡ []
    → IsTrue (flag_at (at_slot k names.Requests) table) → 1 ≤ payload
unfolding requests_faults
requests_right k payload table none is =
    requests_held (at_slot k names.Requests) k payload (held_at (at_slot k names.Requests) table) none is

bit_small : (yes : Bool) → (if yes then 1 else 0) ≤ 1
bit_small true = omega arith
bit_small false = omega arith

live_small : (letters : List ℕ) → live_of letters < 2 ^ length letters
live_small [] = omega arith
live_small (letter ∷ letters) =
    let bit = bit_small (letter == 121) in
    let rest = live_small letters in
    omega (arith, bit, rest, pow-succ' 2 (length letters))

all_small : (modes : ℕ) → live_or_all modes None < 2 ^ modes
all_small modes = pow-sub-lt modes (omega arith)

live_seen : (field : Field) (modes k : ℕ) (letters : Option (List ℕ))
    → kind_faults field (answers_faults modes k) letters ≡ [] → live_or_all modes letters < 2 ^ modes
live_seen field modes k None none = absurd (cc)
live_seen field modes k (Some letters) none =
    let count = eqb-true (length letters) modes (and_parts (length letters == modes) _ (checked _ _ none)).0 in
    rw (← count) (live_small letters)

live_held : (field : Field) (modes k : ℕ) (held : Option Data)
    → optional_faults field as_str (answers_faults modes k) held ≡ []
    → live_or_all modes (option_and_then as_str held) < 2 ^ modes
live_held field modes k None none = all_small modes
live_held field modes k (Some d) none = live_seen field modes k (as_str d) none

live_right : (modes k : ℕ) (table : Members) → live_faults modes k table ≡ [] → live_at modes k table < 2 ^ modes
unfolding live_faults
live_right modes k table none = live_held (at_slot k names.Live) modes k (held_at (at_slot k names.Live) table) none

-- A slot, and all of them.

slot_valid : (rounds modes k : ℕ) (table : Members) → slot_faults rounds modes k table ≡ []
    → IsValidSlot rounds modes (slot_plan_of modes k table)
unfolding slot_faults slot_plan_of
slot_valid rounds modes k table none =
    let kinds = none_both (kinds_faults rounds k table) _ none in
    let most = payload_limit (kinds_at k table) in
    let size = none_both (number_faults (at_slot k names.DataSize) 0 most table) _ kinds.1 in
    let sync = none_both (flag_faults (at_slot k names.Sync) table) _ size.1 in
    let start = none_both (flag_faults (at_slot k names.Start) table) _ sync.1 in
    let payload = number_at (at_slot k names.DataSize) table in
    let requests = none_both (requests_faults k payload table) _ start.1 in
    let bare = list_all is_bare (kinds_at k table) in
    let few = (number_right (at_slot k names.DataSize) 0 most table size.0).1 in
    record {
      kinds = kinds_right rounds k table kinds.0;
      payload = payload_few bare payload few;
      bare = payload_bare bare payload few;
      requests = requests_right k payload table requests.0;
      live = live_right modes k table requests.1;
    }

slots_valid : (rounds modes k : ℕ) (tables : List Members) → slots_faults rounds modes k tables ≡ []
    → AllByRecursion (IsValidSlot rounds modes) (plans_of modes k tables)
slots_valid rounds modes k [] none = tt
slots_valid rounds modes k (table ∷ tables) none =
    let parts = none_both (slot_faults rounds modes k table) (slots_faults rounds modes (suc k) tables) none in
    (slot_valid rounds modes k table parts.0, slots_valid rounds modes (suc k) tables parts.1)

count_right : (version n : ℕ) → count_faults version n ≡ [] → (4 ≤ n) × (n ≤ slot_limit version)
unfolding count_faults
count_right version n none =
    let both = and_parts (nat_le 4 n) (nat_le n (slot_limit version)) (checked _ _ none) in
    (leb-true 4 n both.0, leb-true n (slot_limit version) both.1)

sync_right : (plans : List SlotPlan) → sync_faults plans ≡ [] → 4 ≤ count_by (λ plan. plan.sync) plans
unfolding sync_faults
sync_right plans none = leb-true 4 (count_by (λ plan. plan.sync) plans) (checked _ _ none)

-- The whole list.

list_valid : (file : Members) → file_faults file ≡ [] → IsValid (list_in file)
unfolding file_faults list_in unknown_faults
list_valid file none =
    let version = none_both (number_faults (at_top names.Version) 1 2 file) _ none in
    let rounds = none_both (number_faults (at_top names.Rounds) 1 64 file) _ version.1 in
    let schedule = none_both (number_faults (at_top names.Schedule) 0 16777215 file) _ rounds.1 in
    let buffers = none_both (number_faults (at_top names.Buffers) 1 16 file) _ schedule.1 in
    let drift = none_both (number_faults (at_top names.Drift) 0 1000 file) _ buffers.1 in
    let error = none_both (number_faults (at_top names.Error) 0 1000 file) _ drift.1 in
    let window = none_both (number_faults (at_top names.Window) 1 1000000 file) _ error.1 in
    let array = none_both (array_faults (at_top names.Slot) file) _ window.1 in
    let modes = none_both (modes_faults file) _ array.1 in
    let tables = slots_in file in
    let count = none_both (count_faults (number_at (at_top names.Version) file) (length tables)) _ modes.1 in
    let slots = none_both (slots_faults (number_at (at_top names.Rounds) file) (modes_in file) 0 tables) _ count.1 in
    let unknown = none_both (unknown_faults file) (sync_faults (plans_of (modes_in file) 0 tables)) slots.1 in
    let few = count_right (number_at (at_top names.Version) file) (length tables) count.0 in
    let same = length-plans_of (modes_in file) 0 tables in
    record {
      version = number_right (at_top names.Version) 1 2 file version.0;
      rounds = number_right (at_top names.Rounds) 1 64 file rounds.0;
      schedule = omega (arith, (number_right (at_top names.Schedule) 0 16777215 file schedule.0).1);
      buffers = number_right (at_top names.Buffers) 1 16 file buffers.0;
      drift = IsWithin-number (at_top names.Drift) 0 1000 file drift.0;
      error = IsWithin-number (at_top names.Error) 0 1000 file error.0;
      window = IsWithin-number (at_top names.Window) 1 1000000 file window.0;
      modes = modes_right file modes.0;
      count = rw same few;
      slots = slots_valid (number_at (at_top names.Rounds) file) (modes_in file) 0 tables slots.0;
      sync = sync_right (plans_of (modes_in file) 0 tables) unknown.1;
    }

-- what was read of a file is valid
pub read_valid : (read : Result Medl MedlError) (file : Members) → IfOk read (λ list. file_faults file ≡ [])
    → IfOk read (λ list. list ≡ list_in file) → IfOk read IsValid
read_valid (Ok list) file none is = subst IsValid (sym is) (list_valid file none)
read_valid (Err e) file none is = tt

taken_valid : (faults : List MedlError) (list medl : Medl) → (faults ≡ [] → IsValid list)
    → list_unless faults list ≡ Ok medl → IsValid medl
taken_valid [] list medl valid is = let same : list ≡ medl = cc in subst IsValid same (valid refl)
taken_valid (fault ∷ faults) list medl valid is = absurd (cc)

document_valid : (document : Option Members) (medl : Medl) → medl_of_document document ≡ Ok medl → IsValid medl
unfolding medl_in
document_valid None medl is = absurd (cc)
document_valid (Some file) medl is = taken_valid (file_faults file) (list_in file) medl (list_valid file) is

pub medl_of-valid : (bytes : List ℕ) (medl : Medl) → medl_of bytes ≡ Ok medl → IsValid medl
unfolding medl_of
medl_of-valid bytes medl is = document_valid (document_of bytes) medl is
