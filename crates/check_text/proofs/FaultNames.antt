-- The first fault of a list is called what `ttpbench` calls it.
use Rattle.std.proofs.Common.{◌≡◌, ℕ, ℤ, suc, ◌≤◌, Bool, true, false, cond, List, []}
use Rattle.std.proofs.Common.{◌∷◌, length, map, nat_lt, refl, sym, subst, ◌∙◌}
use Rattle.std.proofs.Common.{Option, Some, None, Result, Ok, Err}
use Rattle.std.specs.Prelude.{◌-◌, ◌&&◌, ◌==◌, nat_le, take, slice_index, if◌then◌else◌}
use Rattle.std.specs.List.{AllByRecursion, list_all}
use Rattle.std.specs.Str.{is_utf8}
use Rattle.std.specs.Str.Lossy.{utf8_valid_len}
use Rattle.std.proofs.lemmas.Bool.{ltb-false, ltb-true}
use Rattle.toml.specs.Data.{Data, Members, as_integer, as_bool, as_str, as_array}
use Rattle.ttp_base.specs.Faults.{first_fault}
use Rattle.ttp_world.specs.declared.medl.Medl.{Medl}
use Rattle.ttp_world.proofs.LineLists.{each-append}
use Rattle.medl_text.specs.declared.error.Field.{Field}
use Rattle.medl_text.specs.declared.error.FieldName.TheVariants as names
use Rattle.medl_text.specs.declared.error.MedlError.{MedlError}
use Rattle.medl_text.specs.ListFile.{at_top, at_slot, held_at, is_within, is_kind}
use Rattle.medl_text.specs.ListFile.{is_answer, are_tables, top_keys, slot_keys}
use Rattle.medl_text.specs.ListFile.{document_of, medl_of}
use Rattle.commands.specs.declared.read.FileFault.{FileFault}
use Rattle.commands.specs.declared.read.FileFault.TheVariants as refused
use Rattle.commands.specs.Faults.{list_fault_text, fault_text}
use Rattle.commands.specs.Read.{list_limit, list_read, list_from}
use Rattle.list_errors.specs.declared.error.Wrong.{Wrong}
use Rattle.list_errors.specs.declared.error.Wrong.TheVariants as wrong
use Rattle.list_errors.specs.Agrees.{list_fault, ListAgrees}
use Rattle.list_errors.specs.Errors.{kind_wrongs, key_wrongs, optional_wrongs, nothing_wrong}
use Rattle.list_errors.specs.Errors.{range_wrongs, number_wrongs}
use Rattle.list_errors.specs.Errors.{flag_wrongs, has_count, letters_wrongs, kinds_wrongs}
use Rattle.list_errors.specs.Errors.{kinds_known, answers_wrongs, live_wrongs}
use Rattle.list_errors.specs.Errors.{data_limit, data_wrongs, payload_known, request_wrongs}
use Rattle.list_errors.specs.Errors.{requests_wrongs, slot_wrongs}
use Rattle.list_errors.specs.Errors.{slots_wrongs, tables_wrongs, array_wrongs, elements_of, count_limit, count_wrongs}
use Rattle.list_errors.specs.Errors.{unknown_keys, unknown_keys_at_top, unknown_keys_at_slot, unknown_keys_in_slots}
use Rattle.list_errors.specs.Errors.{sync_count, few_syncs, sync_wrongs, modes_wrongs}
use Rattle.list_errors.specs.Errors.{version_known, rounds_known, modes_known}
use Rattle.list_errors.specs.Errors.{top_wrongs, below_wrongs, table_wrongs, has_utf16_mark}
use Rattle.list_errors.specs.Errors.{begins_script, said_from, not_toml}
use Rattle.list_errors.specs.Errors.{document_wrongs, list_wrongs}
use Rattle.check_text.proofs.FromBelow.{large_wrongs, small_wrongs, agrees}
use Rattle.list_words.specs.Words.{list_fault_name}

-- it is called by the words of the reader's fault
abbrev IsCalled : Wrong → Type 0
IsCalled w = list_fault_name w ≡ list_fault_text (list_fault w)

abbrev AllCalled : List Wrong → Type 0
AllCalled ws = AllByRecursion IsCalled ws

each : {X : Type 0} (of : X → Wrong) → ((x : X) → IsCalled (of x)) → (xs : List X) → AllCalled (map of xs)
each of is [] = tt
each of is (x ∷ xs) = (is x, each of is xs)

-- one thing may be wrong
unless : (right : Bool) (w : Wrong) → IsCalled w → AllCalled (if right then [] else w ∷ [])
unless true w is = tt
unless false w is = (is, tt)

-- The faults of one key.

of_kind : {X : Type 0} (field : Field) (d : Data) (wrongs : X → List Wrong) → ((x : X) → AllCalled (wrongs x))
    → (seen : Option X) → AllCalled (kind_wrongs field d wrongs seen)
unfolding list_fault_name
of_kind field d wrongs all None = (refl, tt)
of_kind field d wrongs all (Some x) = all x

of_key : {X : Type 0} (field : Field) (seen_as : Data → Option X) (wrongs : X → List Wrong)
    → ((x : X) → AllCalled (wrongs x)) → (held : Option Data) → AllCalled (key_wrongs field seen_as wrongs held)
unfolding list_fault_name
of_key field seen_as wrongs all None = (refl, tt)
of_key field seen_as wrongs all (Some d) = of_kind field d wrongs all (seen_as d)

of_optional : {X : Type 0} (field : Field) (seen_as : Data → Option X) (wrongs : X → List Wrong)
    → ((x : X) → AllCalled (wrongs x)) → (held : Option Data) → AllCalled (optional_wrongs field seen_as wrongs held)
of_optional field seen_as wrongs all None = tt
of_optional field seen_as wrongs all (Some d) = of_kind field d wrongs all (seen_as d)

of_range : (field : Field) (low high : ℕ) (z : ℤ) → AllCalled (range_wrongs field low high z)
unfolding list_fault_name
of_range field low high z = unless (is_within low high z) (wrong.OutOfRange field z low high) refl

of_number : (field : Field) (low high : ℕ) (table : Members) → AllCalled (number_wrongs field low high table)
unfolding number_wrongs
of_number field low high table =
    of_key field as_integer (range_wrongs field low high) (of_range field low high) (held_at field table)

of_flag : (field : Field) (table : Members) → AllCalled (flag_wrongs field table)
unfolding flag_wrongs
of_flag field table = of_key field as_bool nothing_wrong (λ b. tt) (held_at field table)

-- A slot.

of_kinds : (rounds : Option ℕ) (k : ℕ) (table : Members) → AllCalled (kinds_wrongs rounds k table)
unfolding kinds_wrongs list_fault_name
of_kinds rounds k table =
    let field = at_slot k names.Kinds in
    of_key field as_str (letters_wrongs rounds k)
    (λ letters. unless (has_count rounds letters && list_all is_kind letters) (wrong.Kinds k letters) refl)
    (held_at field table)

of_data : (rounds : Option ℕ) (k : ℕ) (table : Members) → AllCalled (data_wrongs rounds k table)
unfolding data_wrongs
of_data rounds k table = of_number (at_slot k names.DataSize) 0 (data_limit (kinds_known rounds k table)) table

of_request : (k : ℕ) (payload : Option ℕ) (requests : Bool) → AllCalled (request_wrongs k payload requests)
unfolding list_fault_name
of_request k None requests = tt
of_request k (Some payload) requests = by (requests && (payload == 0))
  where
    by : (none : Bool) → AllCalled (if none then wrong.NoRequestData k ∷ [] else [])
    by true = (refl, tt)
    by false = tt

of_requests : (k : ℕ) (payload : Option ℕ) (table : Members) → AllCalled (requests_wrongs k payload table)
unfolding requests_wrongs
of_requests k payload table =
    let field = at_slot k names.Requests in
    of_optional field as_bool (request_wrongs k payload) (of_request k payload) (held_at field table)

of_live : (modes : Option ℕ) (k : ℕ) (table : Members) → AllCalled (live_wrongs modes k table)
unfolding live_wrongs list_fault_name
of_live modes k table =
    let field = at_slot k names.Live in
    of_optional field as_str (answers_wrongs modes k)
    (λ letters. unless (has_count modes letters && list_all is_answer letters) (wrong.Live k letters) refl)
    (held_at field table)

of_slot : (rounds modes : Option ℕ) (k : ℕ) (table : Members) → AllCalled (slot_wrongs rounds modes k table)
unfolding slot_wrongs
of_slot rounds modes k table =
    each-append IsCalled _ _ (of_kinds rounds k table)
    (each-append IsCalled _ _ (of_data rounds k table)
    (each-append IsCalled _ _ (of_flag (at_slot k names.Sync) table)
    (each-append IsCalled _ _ (of_flag (at_slot k names.Start) table)
    (each-append IsCalled _ _ (of_requests k (payload_known rounds k table) table) (of_live modes k table)))))

of_slots : (rounds modes : Option ℕ) (k : ℕ) (tables : List Members) → AllCalled (slots_wrongs rounds modes k tables)
of_slots rounds modes k [] = tt
of_slots rounds modes k (table ∷ tables) =
    each-append IsCalled _ _ (of_slot rounds modes k table) (of_slots rounds modes (suc k) tables)

-- The whole table.

of_array : (file : Members) → AllCalled (array_wrongs file)
unfolding array_wrongs list_fault_name
of_array file =
    let field = at_top names.Slot in
    of_key field as_array (tables_wrongs field) (λ ds. unless (are_tables ds) _ refl) (held_at field file)

of_modes : (file : Members) → AllCalled (modes_wrongs file)
unfolding modes_wrongs
of_modes file =
    let field = at_top names.Modes in
    of_optional field as_integer (range_wrongs field 1 8) (of_range field 1 8) (held_at field file)

of_count : (version : Option ℕ) (n : ℕ) → AllCalled (count_wrongs version n)
unfolding count_wrongs list_fault_name
of_count version n = unless (nat_le 4 n && nat_le n (count_limit version)) (wrong.SlotCount n) refl

of_top_keys : (file : Members) → AllCalled (unknown_keys_at_top file)
unfolding unknown_keys_at_top list_fault_name
of_top_keys file = each (λ key. wrong.Unknown None key) (λ key. refl) (unknown_keys top_keys file)

of_slot_keys : (k : ℕ) (table : Members) → AllCalled (unknown_keys_at_slot k table)
unfolding unknown_keys_at_slot list_fault_name
of_slot_keys k table = each (λ key. wrong.Unknown (Some k) key) (λ key. refl) (unknown_keys slot_keys table)

of_slots_keys : (k : ℕ) (tables : List Members) → AllCalled (unknown_keys_in_slots k tables)
of_slots_keys k [] = tt
of_slots_keys k (table ∷ tables) = each-append IsCalled _ _ (of_slot_keys k table) (of_slots_keys (suc k) tables)

of_few : (count : Option ℕ) → AllCalled (few_syncs count)
unfolding list_fault_name
of_few None = tt
of_few (Some found) = unless (nat_le 4 found) (wrong.NoSync found) refl

of_sync : (slots : List Members) → AllCalled (sync_wrongs slots)
unfolding sync_wrongs
of_sync slots = by (nat_le 4 (length slots) && nat_le (length slots) 24)
  where
    by : (asked : Bool) → AllCalled (if asked then few_syncs (sync_count 0 slots) else [])
    by true = of_few (sync_count 0 slots)
    by false = tt

of_top : (file : Members) → AllCalled (top_wrongs file)
unfolding top_wrongs
of_top file =
    each-append IsCalled _ _ (of_number (at_top names.Version) 1 2 file)
    (each-append IsCalled _ _ (of_number (at_top names.Rounds) 1 64 file)
    (each-append IsCalled _ _ (of_number (at_top names.Schedule) 0 16777215 file)
    (each-append IsCalled _ _ (of_number (at_top names.Buffers) 1 16 file)
    (each-append IsCalled _ _ (of_number (at_top names.Drift) 0 1000 file)
    (each-append IsCalled _ _ (of_number (at_top names.Error) 0 1000 file)
    (each-append IsCalled _ _ (of_number (at_top names.Window) 1 1000000 file)
    (each-append IsCalled _ _ (of_array file) (of_modes file))))))))

of_below : (file : Members) (elements : Option (List Members)) → AllCalled (below_wrongs file elements)
of_below file None = of_top_keys file
of_below file (Some slots) =
    each-append IsCalled _ _ (of_count (version_known file) (length slots))
    (each-append IsCalled _ _ (of_slots (rounds_known file) (modes_known file) 0 (take 24 slots))
    (each-append IsCalled _ _ (of_top_keys file)
    (each-append IsCalled _ _ (of_slots_keys 0 (take 24 slots)) (of_sync slots))))

of_table : (file : Members) → AllCalled (table_wrongs file)
unfolding table_wrongs
of_table file = each-append IsCalled _ _ (of_top file) (of_below file (elements_of file))

-- A file that is no list.

of_front : (text : List ℕ) → IsCalled (not_toml text)
unfolding list_fault_name
of_front text = by (has_utf16_mark text) (begins_script (said_from false text)) (is_utf8 text)
  where
    by : (utf16 script utf8 : Bool) → IsCalled (if utf16 then wrong.Utf16 else (if script
        then wrong.IsScript (length text - length (said_from false text))
        else (if utf8 then wrong.NotToml
        else wrong.NotUtf8 (utf8_valid_len text) (slice_index text (utf8_valid_len text)))))
    by true script utf8 = refl
    by false true utf8 = refl
    by false false true = refl
    by false false false = refl

of_document : (text : List ℕ) (file : Option Members) → AllCalled (document_wrongs text file)
of_document text None = (of_front text, tt)
of_document text (Some file) = of_table file

of_text : (text : List ℕ) → length text ≤ list_limit → AllCalled (list_wrongs text)
of_text text size = subst AllCalled (sym (small_wrongs text size)) (of_document text (document_of text))

-- The first fault of a list that is refused.

pub record BeginsAs (ws : List Wrong) (fault : FileFault) : Type 0 where
  pub first : Wrong
  pub rest : List Wrong
  pub wrongs_are : ws ≡ first ∷ rest
  pub called : list_fault_name first ≡ fault_text fault

too_large : BeginsAs (wrong.TooLarge ∷ []) refused.TooLarge
unfolding list_fault_name
too_large = record { first = wrong.TooLarge; rest = []; wrongs_are = refl; called = refl }

by_first : (ws : List Wrong) (why : MedlError) → AllCalled ws → first_fault (map list_fault ws) ≡ Some why
    → BeginsAs ws (refused.List why)
by_first [] why all is = absurd (cc)
by_first (w ∷ ws) why all is =
    let same : list_fault w ≡ why = cc in
    record { first = w; rest = ws; wrongs_are = refl; called = all.0 ∙ (λ i. list_fault_text (same i)) }

pub begins_as : (text : List ℕ) (fault : FileFault) → list_from text ≡ Err fault → BeginsAs (list_wrongs text) fault
unfolding list_from
begins_as text fault read = by (nat_lt list_limit (length text)) refl read
  where
    small : (m : Result Medl MedlError) → length text ≤ list_limit → medl_of text ≡ m → list_read m ≡ Err fault
        → BeginsAs (list_wrongs text) fault
    small (Ok list) size same taken = absurd (cc)
    small (Err why) size same taken =
        let is : refused.List why ≡ fault = cc in
        subst (BeginsAs (list_wrongs text)) is
        (by_first (list_wrongs text) why (of_text text size)
        (subst (λ (answer : Result Medl MedlError). ListAgrees (list_wrongs text) answer) same (agrees text size)))

    by : (large : Bool) → nat_lt list_limit (length text) ≡ large
        → cond large (Err refused.TooLarge) (list_read (medl_of text)) ≡ Err fault → BeginsAs (list_wrongs text) fault
    by true is taken =
        let same : refused.TooLarge ≡ fault = cc in
        subst (BeginsAs (list_wrongs text)) same
        (subst (λ (ws : List Wrong). BeginsAs ws refused.TooLarge)
        (sym (large_wrongs text (ltb-true list_limit (length text) is))) too_large)
    by false is taken = small (medl_of text) (ltb-false list_limit (length text) is) refl taken
