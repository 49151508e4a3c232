-- The errors of a whole list agree with the reader's answer.
use Rattle.std.proofs.Common.{◌≡◌, ℕ, ◌<◌, ◌≤◌, Bool, true, false, List, [], ◌∷◌, ◌++◌, Option, Some, None, refl, ap}
use Rattle.std.proofs.Common.{◌∙◌, sym, inl, inr, subst, arith, length, map, take, append_assoc, Result, Ok, Err}
use Rattle.std.specs.Prelude.{◌⊎◌, ◌-◌, slice_index, ◌&&◌, nat_le, nat_lt, if◌then◌else◌, option_and_then}
use Rattle.std.specs.Str.{is_utf8}
use Rattle.std.specs.Str.Lossy.{utf8_valid_len}
use Rattle.std.proofs.lemmas.Bool.Decides.{nat_tests}
use Rattle.std.proofs.lemmas.Grind.{common_steps}
use Rattle.std.proofs.lemmas.List.{take_all}
use Rattle.toml.specs.Data.{Members}
use Rattle.ttp_base.specs.Faults.{first_fault}
use Rattle.ttp_world.specs.declared.medl.Medl.{Medl}
use Rattle.medl_text.specs.declared.error.FieldName.TheVariants as names
use Rattle.medl_text.specs.declared.error.MedlError.{MedlError}
use Rattle.medl_text.specs.declared.error.MedlError.TheVariants as faults
use Rattle.medl_text.specs.ListFile.{at_top, number_at, count_faults, slots_faults}
use Rattle.medl_text.specs.ListFile.{plans_of, has_only, top_keys, sync_faults}
use Rattle.medl_text.specs.ListFile.{modes_in, slots_in, unknown_faults, file_faults}
use Rattle.medl_text.specs.ListFile.{list_in, list_unless, medl_in, document_of, medl_of, medl_of_document}
use Rattle.medl_text.specs.ListFile.{unknown_in_slots as reader_unknown}
use Rattle.list_errors.specs.declared.error.Wrong.{Wrong}
use Rattle.list_errors.specs.declared.error.Wrong.TheVariants as wrong
use Rattle.list_errors.specs.Agrees.{list_fault, ListAgrees}
use Rattle.list_errors.specs.Errors.{where_right, number_wrongs, array_wrongs, elements_of}
use Rattle.list_errors.specs.Errors.{count_wrongs, slots_wrongs, unknown_keys_at_top}
use Rattle.list_errors.specs.Errors.{unknown_keys_in_slots, sync_wrongs, modes_wrongs}
use Rattle.list_errors.specs.Errors.{rounds_known, modes_known, top_wrongs}
use Rattle.list_errors.specs.Errors.{below_wrongs, table_wrongs, list_limit, has_utf16_mark}
use Rattle.list_errors.specs.Errors.{begins_script, said_from, not_toml}
use Rattle.list_errors.specs.Errors.{document_wrongs, list_wrongs, rounds_said, modes_said}
use Rattle.list_errors.proofs.Agree.{Outcome, both, number_agrees, array_agrees, modes_agree, count_agrees, count_right}
use Rattle.list_errors.proofs.Agree.{slots_agree, top_unknown, slots_unknown, sync_agrees, front_right, back_right}

-- What stands below the keys at the top.

between : (n : ℕ) → (4 ≤ n) × (n ≤ 24) → (nat_le 4 n && nat_le n 24) ≡ true
between n within = grind (arith, nat_tests, common_steps, within.0, within.1)

below_parts : (version rounds modes : ℕ) (file : Members) (slots : List Members)
    → Outcome (count_wrongs (Some version) (length slots)
    ++ (slots_wrongs (Some rounds) (Some modes) 0 (take 24 slots)
    ++ (unknown_keys_at_top file ++ (unknown_keys_in_slots 0 (take 24 slots) ++ sync_wrongs slots))))
    (count_faults version (length slots)
    ++ (slots_faults rounds modes 0 slots
    ++ ((if has_only top_keys file then [] else faults.Unknown None ∷ [])
    ++ (reader_unknown 0 slots ++ sync_faults (plans_of modes 0 slots)))))
below_parts version rounds modes file slots =
    both _ _ _ _ (count_agrees version (length slots)) (λ count.
    let within = count_right version (length slots) count in
    rw (take_all 24 slots within.1)
    (both _ _ _ _ (slots_agree rounds modes 0 slots) (λ right.
    both _ _ _ _ (top_unknown file) (λ top.
    both _ _ _ _ (slots_unknown 0 slots) (λ known.
    sync_agrees rounds modes slots right (between (length slots) within))))))

abbrev reader_below : Members → List MedlError
reader_below file =
    count_faults (number_at (at_top names.Version) file) (length (slots_in file))
    ++ (slots_faults (number_at (at_top names.Rounds) file) (modes_in file) 0 (slots_in file)
    ++ (unknown_faults file ++ sync_faults (plans_of (modes_in file) 0 (slots_in file))))

reader_below_parts : (file : Members) → reader_below file
    ≡ count_faults (number_at (at_top names.Version) file) (length (slots_in file))
    ++ (slots_faults (number_at (at_top names.Rounds) file) (modes_in file) 0 (slots_in file)
    ++ ((if has_only top_keys file then [] else faults.Unknown None ∷ [])
    ++ (reader_unknown 0 (slots_in file) ++ sync_faults (plans_of (modes_in file) 0 (slots_in file)))))
unfolding unknown_faults
reader_below_parts file =
    ap (λ (es : List MedlError). count_faults (number_at (at_top names.Version) file) (length (slots_in file))
    ++ (slots_faults (number_at (at_top names.Rounds) file) (modes_in file) 0 (slots_in file) ++ es))
    (append_assoc (if has_only top_keys file then [] else faults.Unknown None ∷ []) (reader_unknown 0 (slots_in file))
    (sync_faults (plans_of (modes_in file) 0 (slots_in file))))

below_agrees : (file : Members) → number_wrongs (at_top names.Version) 1 2 file ≡ []
    → number_wrongs (at_top names.Rounds) 1 64 file ≡ [] → array_wrongs file ≡ [] → modes_wrongs file ≡ []
    → Outcome (below_wrongs file (elements_of file)) (reader_below file)
below_agrees file version rounds slots modes =
    rw (slots, version, rounds, modes, reader_below_parts file)
    (below_parts (number_at (at_top names.Version) file) (number_at (at_top names.Rounds) file) (modes_in file) file
    (slots_in file))

-- The whole table.

-- a part of several, with what stands behind them all
along : (told others more : List Wrong) (found next : List MedlError) → Outcome told found
    → (told ≡ [] → Outcome (others ++ more) next) → Outcome ((told ++ others) ++ more) (found ++ next)
along told others more found next first behind =
    rw (append_assoc told others more) (both told (others ++ more) found next first behind)

table_agrees : (file : Members) → Outcome (table_wrongs file) (file_faults file)
unfolding table_wrongs top_wrongs file_faults
table_agrees file =
    along _ _ _ _ _ (number_agrees (at_top names.Version) 1 2 file) (λ version.
    along _ _ _ _ _ (number_agrees (at_top names.Rounds) 1 64 file) (λ rounds.
    along _ _ _ _ _ (number_agrees (at_top names.Schedule) 0 16777215 file) (λ schedule.
    along _ _ _ _ _ (number_agrees (at_top names.Buffers) 1 16 file) (λ buffers.
    along _ _ _ _ _ (number_agrees (at_top names.Drift) 0 1000 file) (λ drift.
    along _ _ _ _ _ (number_agrees (at_top names.Error) 0 1000 file) (λ error.
    along _ _ _ _ _ (number_agrees (at_top names.Window) 1 1000000 file) (λ window.
    along _ _ _ _ _ (array_agrees file) (λ slots.
    both _ _ _ _ (modes_agree file) (λ modes. below_agrees file version rounds slots modes)))))))))

-- The file.

outcome_agrees : (told : List Wrong) (found : List MedlError) (list : Medl) → Outcome told found
    → ListAgrees told (list_unless found list)
outcome_agrees told found list (inl none) = rw none.1 none.0
outcome_agrees told [] list (inr (fault, (first, is))) = absurd cc
outcome_agrees told (x ∷ xs) list (inr (fault, (first, is))) = first ∙ sym is

by_tests : (text : List ℕ) (utf16 script utf8 : Bool)
    → list_fault (if utf16 then wrong.Utf16 else (if script
    then wrong.IsScript (length text - length (said_from false text))
    else (if utf8 then wrong.NotToml
    else wrong.NotUtf8 (utf8_valid_len text) (slice_index text (utf8_valid_len text))))) ≡ faults.NotToml
by_tests text true script utf8 = refl
by_tests text false true utf8 = refl
by_tests text false false true = refl
by_tests text false false false = refl

toml_fault : (text : List ℕ) → list_fault (not_toml text) ≡ faults.NotToml
toml_fault text = by_tests text (has_utf16_mark text) (begins_script (said_from false text)) (is_utf8 text)

document_agrees : (text : List ℕ) (file : Option Members)
    → ListAgrees (document_wrongs text file) (medl_of_document file)
unfolding medl_in
document_agrees text None = ap Some (toml_fault text)
document_agrees text (Some file) =
    outcome_agrees (table_wrongs file) (file_faults file) (list_in file) (table_agrees file)

small : (text : List ℕ) → length text ≤ list_limit → nat_lt list_limit (length text) ≡ false
small text size = grind (arith, nat_tests)

pub small_wrongs : (text : List ℕ) → length text ≤ list_limit → list_wrongs text
    ≡ document_wrongs text (document_of text)
unfolding list_wrongs
small_wrongs text size = rw (small text size) refl

pub agrees : (text : List ℕ) → length text ≤ list_limit → ListAgrees (list_wrongs text) (medl_of text)
unfolding medl_of
agrees text size =
    subst (λ (told : List Wrong). ListAgrees told (medl_of_document (document_of text))) (sym (small_wrongs text size))
    (document_agrees text (document_of text))

-- A list that is right.

unless_ok : (found : List MedlError) (l list : Medl) → list_unless found l ≡ Ok list → l ≡ list
unless_ok [] l list h = cc
unless_ok (x ∷ xs) l list h = absurd cc

number_is_known : (file : Members) (low high : ℕ) → number_wrongs (at_top names.Rounds) low high file ≡ []
    → where_right (number_wrongs (at_top names.Rounds) low high file) (number_at (at_top names.Rounds) file)
    ≡ Some (number_at (at_top names.Rounds) file)
number_is_known file low high right = rw right refl

list_numbers : (file : Members)
    → ((list_in file).rounds ≡ number_at (at_top names.Rounds) file) × ((list_in file).modes ≡ modes_in file)
unfolding list_in
list_numbers file = (refl, refl)

rounds_right : (file : Members) → table_wrongs file ≡ [] → number_wrongs (at_top names.Rounds) 1 64 file ≡ []
unfolding table_wrongs top_wrongs
rounds_right file right =
    front_right (number_wrongs (at_top names.Rounds) 1 64 file) _
    (back_right (number_wrongs (at_top names.Version) 1 2 file) _ (front_right (top_wrongs file) _ right))

modes_right : (file : Members) → table_wrongs file ≡ [] → modes_wrongs file ≡ []
unfolding table_wrongs top_wrongs
modes_right file right =
    back_right (array_wrongs file) _
    (back_right (number_wrongs (at_top names.Window) 1 1000000 file) _
    (back_right (number_wrongs (at_top names.Error) 0 1000 file) _
    (back_right (number_wrongs (at_top names.Drift) 0 1000 file) _
    (back_right (number_wrongs (at_top names.Buffers) 1 16 file) _
    (back_right (number_wrongs (at_top names.Schedule) 0 16777215 file) _
    (back_right (number_wrongs (at_top names.Rounds) 1 64 file) _
    (back_right (number_wrongs (at_top names.Version) 1 2 file) _ (front_right (top_wrongs file) _ right))))))))

-- what a right file says
pub record IsRight (list : Medl) (file : Option Members) : Type 0 where
  pub rounds : option_and_then rounds_known file ≡ Some list.rounds
  pub modes : option_and_then modes_known file ≡ Some list.modes

right_file : (list : Medl) (file : Members) → table_wrongs file ≡ [] → list_in file ≡ list → IsRight list (Some file)
right_file list file right is = record {
  rounds = number_is_known file 1 64 (rounds_right file right)
      ∙ ap Some (sym (list_numbers file).0 ∙ ap (λ (l : Medl). l.rounds) is);
  modes = rw (modes_right file right) (ap Some (sym (list_numbers file).1 ∙ ap (λ (l : Medl). l.modes) is));
}

right_document : (list : Medl) (text : List ℕ) (file : Option Members) → document_wrongs text file ≡ []
    → medl_of_document file ≡ Ok list → IsRight list file
unfolding medl_in
right_document list text None right h = absurd cc
right_document list text (Some file) right h =
    right_file list file right (unless_ok (file_faults file) (list_in file) list h)

pub right_wrongs : (text : List ℕ) (list : Medl) → length text ≤ list_limit
    → medl_of text ≡ Ok list → list_wrongs text ≡ []
right_wrongs text list size is =
    subst (λ (answer : Result Medl MedlError). ListAgrees (list_wrongs text) answer) is (agrees text size)

is_right : (text : List ℕ) (list : Medl) → length text ≤ list_limit → medl_of text
    ≡ Ok list → IsRight list (document_of text)
unfolding medl_of
is_right text list size is =
    right_document list text (document_of text) (sym (small_wrongs text size) ∙ right_wrongs text list size is) is

pub small_rounds : (text : List ℕ) → length text ≤ list_limit → rounds_said text
    ≡ option_and_then rounds_known (document_of text)
unfolding rounds_said
small_rounds text size = rw (small text size) refl

pub small_modes : (text : List ℕ) → length text ≤ list_limit → modes_said text
    ≡ option_and_then modes_known (document_of text)
unfolding modes_said
small_modes text size = rw (small text size) refl

pub right_rounds : (text : List ℕ) (list : Medl) → length text ≤ list_limit → medl_of text ≡ Ok list
    → rounds_said text ≡ Some list.rounds
right_rounds text list size is = small_rounds text size ∙ (is_right text list size is).rounds

pub right_modes : (text : List ℕ) (list : Medl) → length text ≤ list_limit → medl_of text ≡ Ok list
    → modes_said text ≡ Some list.modes
right_modes text list size is = small_modes text size ∙ (is_right text list size is).modes

-- A list that the reader refuses.

none_first : (told : List Wrong) (fault : MedlError) → first_fault (map list_fault told) ≡ Some fault → told ≡ [] → ⊥
none_first [] fault h none = absurd cc
none_first (w ∷ ws) fault h none = absurd cc

pub refused_wrongs : (text : List ℕ) (fault : MedlError) → length text ≤ list_limit → medl_of text ≡ Err fault
    → list_wrongs text ≡ [] → ⊥
refused_wrongs text fault size is none =
    none_first (list_wrongs text) fault
    (subst (λ (answer : Result Medl MedlError). ListAgrees (list_wrongs text) answer) is (agrees text size)) none

-- A file that is too large.

large : (text : List ℕ) → list_limit < length text → nat_lt list_limit (length text) ≡ true
large text size = grind (arith, nat_tests)

pub large_wrongs : (text : List ℕ) → list_limit < length text → list_wrongs text ≡ wrong.TooLarge ∷ []
unfolding list_wrongs
large_wrongs text size = rw (large text size) refl

pub large_rounds : (text : List ℕ) → list_limit < length text → rounds_said text ≡ None
unfolding rounds_said
large_rounds text size = rw (large text size) refl

pub large_modes : (text : List ℕ) → list_limit < length text → modes_said text ≡ None
unfolding modes_said
large_modes text size = rw (large text size) refl

-- What the reader answers.

abbrev the_error : MedlError → Result Medl MedlError
the_error fault = Err fault

pub taken : (text : List ℕ) (list : Medl) → (Ok list ≡ Err faults.Memory)
    ⊎ (Ok list ≡ medl_of text) → medl_of text ≡ Ok list
taken text list (inl h) = absurd cc
taken text list (inr h) = sym h

pub told_fault : (text : List ℕ) (fault : MedlError) → (fault ≡ faults.Memory → ⊥)
    → (the_error fault ≡ the_error faults.Memory) ⊎ (the_error fault ≡ medl_of text) → medl_of text ≡ Err fault
told_fault text fault other (inl h) = absurd (other cc)
told_fault text fault other (inr h) = sym h
