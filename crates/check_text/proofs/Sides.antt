-- What is found is what is told.
use Rattle.std.proofs.Common.{◌≡◌, ◌↔◌, ℕ, ◌+◌, ◌<◌, ◌≤◌, Bool, true, false, not, IsTrue, rules}
use Rattle.std.proofs.Common.{List, [], ◌∷◌, ◌++◌, length, nat_lt, refl, ap, subst, ◌∙◌, arith}
use Rattle.std.proofs.Common.{Option, Some, None, Result, Ok, Err}
use Rattle.std.specs.Prelude.{IfSome, IfNone, String, slice_index_or}
use Rattle.std.specs.BTreeMap.{BTreeMap}
use Rattle.std.specs.declared.alloc.Global.{Global}
use Rattle.toml.specs.declared.value.Value.{Value}
use Rattle.toml.specs.View.{members_view, table_view}
use Rattle.std.proofs.lemmas.Bool.{le-ltb}
use Rattle.std.proofs.lemmas.List.{length-map}
use Rattle.std.proofs.lemmas.List.FromFn.{length-range_with_len}
use Rattle.ttp_base.specs.NodeSet.{below}
use Rattle.ttp_base.specs.Text.{Lines}
use Rattle.ttp_world.specs.declared.medl.Medl.{Medl}
use Rattle.ttp_world.specs.declared.script.Script.{Script}
use Rattle.medl_text.specs.declared.error.MedlError.{MedlError}
use Rattle.medl_text.specs.ListFile.{medl_of}
use Rattle.commands.specs.Read.{list_limit, list_read, list_from, script_from}
use Rattle.toml_walk.specs.declared.stop.Stop.{Stop}
use Rattle.list_errors.specs.declared.error.Wrong.{Wrong}
use Rattle.list_errors.specs.Agrees.{ListAgrees}
use Rattle.list_errors.specs.Errors.{list_wrongs, rounds_said, modes_said}
use Rattle.list_places.specs.declared.lines.Place.{Place}
use Rattle.list_places.specs.Places.{found_places, stop_told}
use Rattle.stop_words.specs.Stops.{stop_words}
use Rattle.check_words.specs.Lines.{last_line}
use Rattle.check_text.specs.declared.found.Beside.{Beside}
use Rattle.check_text.specs.declared.list_side.ListSide.{ListSide}
use Rattle.check_text.specs.Check.{Named, Checked, read_value, both_checked, checked_by, check_found, lines_with_last}
use Rattle.check_text.specs.Found.{IsFoundBeside}
use Rattle.check_text.specs.Lines.{has_member, list_fault_lines, list_fault_lines_at}
use Rattle.check_text.specs.Lines.{no_list_place, nth_place, place_at}
use Rattle.check_text.specs.Sides.{list_side_lines}

-- A list.

value_of : (wrongs : List Wrong) (found : Option Medl) (read : Result Medl MedlError) → ListAgrees wrongs read
    → IfSome found (λ list. read ≡ Ok list) → IfNone found (wrongs ≡ [] → ⊥) → found ≡ read_value (list_read read)
value_of wrongs (Some list) read agrees some none = rw some refl
value_of wrongs None (Ok list) agrees some none = absurd (none agrees)
value_of wrongs None (Err fault) agrees some none = refl

-- the list that is found in bytes that are not too many is the one that is read
pub found_value : (text : List ℕ) (wrongs : List Wrong) (found : Option Medl) → length text ≤ list_limit
    → ListAgrees wrongs (medl_of text) → IfSome found (λ list. medl_of text ≡ Ok list)
    → IfNone found (wrongs ≡ [] → ⊥) → found ≡ read_value (list_from text)
unfolding list_from
found_value text wrongs found small agrees some none =
    rw (le-ltb list_limit (length text) small) (value_of wrongs found (medl_of text) agrees some none)

-- in bytes that are too many no list is found, and none is read
pub large_value : (text : List ℕ) → nat_lt list_limit (length text) ≡ true → None ≡ read_value (list_from text)
unfolding list_from
large_value text large = rw large refl

-- the lines on a list
pub side_is : (name text : List ℕ) (wrongs : List Wrong) (rounds modes : Option ℕ) (places : List Place)
    (stop : Option Stop) (words : List ℕ) → wrongs ≡ list_wrongs text → rounds ≡ rounds_said text
    → modes ≡ modes_said text → places ≡ found_places text wrongs → stop ≡ stop_told text wrongs
    → words ≡ stop_words text stop
    → list_fault_lines_at name rounds modes words wrongs places ≡ list_fault_lines name text
unfolding list_fault_lines
side_is name text wrongs rounds modes places stop words is_wrongs is_rounds is_modes is_places is_stop is_words =
    rw (is_words, is_stop, is_places, is_modes, is_rounds, is_wrongs) refl

-- a list has as many lines as errors
pub side_count : (name : List ℕ) (side : ListSide) → length (list_side_lines name side) ≡ length side.wrongs
side_count name side = length-map (below (length side.wrongs)) _ ∙ length-range_with_len 0 (length side.wrongs)

no_lines : (name : List ℕ) (side : ListSide) → side.wrongs ≡ [] → list_side_lines name side ≡ []
no_lines name side none = rw none refl

both_list : (file script : Named) (list : Medl) (right : Option Script) → []
    ≡ (both_checked file script list right).list
both_list file script list None = refl
both_list file script list (Some right) = refl

right_list : (file : Named) (script : Option Named) (list : Medl) → [] ≡ (checked_by file script (Some list)).list
right_list file None list = refl
right_list file (Some script) list = both_list file script list (read_value (script_from list script.text))

list_by : (file : Named) (script : Option Named) (side : ListSide) (found : Option Medl)
    → IfSome found (λ list. side.wrongs ≡ []) → list_side_lines file.name side ≡ list_fault_lines file.name file.text
    → list_side_lines file.name side ≡ (checked_by file script found).list
list_by file script side None none lines = lines
list_by file script side (Some list) none lines = no_lines file.name side none ∙ right_list file script list

-- the lines on the faults of a list are those that are told
pub found_list : (file : Named) (script : Option Named) (side : ListSide) → side.list ≡ read_value (list_from file.text)
    → IfSome side.list (λ list. side.wrongs ≡ [])
    → list_side_lines file.name side ≡ list_fault_lines file.name file.text
    → list_side_lines file.name side ≡ (check_found file script).list
unfolding check_found
found_list file script side is none lines =
    list_by file script side side.list none lines
    ∙ ap (λ (found : Option Medl). (checked_by file script found).list) is

pub found_beside : (file : Named) (script : Option Named) (found : Option Medl) (beside : Beside)
    → found ≡ read_value (list_from file.text) → IsFoundBeside (checked_by file script found) script beside
    → IsFoundBeside (check_found file script) script beside
unfolding check_found
found_beside file script found beside is has =
    subst (λ (f : Option Medl). IsFoundBeside (checked_by file script f) script beside) is has

-- A place.

pub nth_is : (places : List Place) (i : ℕ) → i < length places
    → place_at (slice_index_or places i no_list_place).line
    (slice_index_or places i no_list_place).column ≡ nth_place places i
nth_is places i less = let is : nat_lt i (length places) ≡ true = grind arith in rw is refl

-- A table.

pub has_entries : (m : BTreeMap (String Global) Value) (empty : Bool) → IsTrue empty ↔ (length m.entries ≡ 0)
    → not empty ≡ has_member (Some (table_view m))
has_entries m empty is = by empty m.entries is
  where
    by : (empty : Bool) (entries : List (String Global × Value)) → IsTrue empty ↔ (length entries ≡ 0)
        → not empty ≡ has_member (Some (members_view entries))
    by true [] is = refl
    by false [] is = let none = is.1 refl in absurd (grind arith)
    by true (e ∷ entries) is = let none = is.0 (search rules) in absurd (grind arith)
    by false (e ∷ entries) is = refl

-- All lines.

pub whole : (c : Checked) (l s w : Lines) (answer : List ℕ) (errors : ℕ) → l ≡ c.list → s ≡ c.script → w ≡ c.warnings
    → answer ≡ c.answer → errors ≡ length l + length s
    → l ++ (s ++ (w ++ last_line errors (length w) answer ∷ [])) ≡ lines_with_last c
whole c l s w answer errors is_list is_script is_warnings is_answer count =
    rw (count, is_list, is_script, is_warnings, is_answer) refl

pub both_counts : (a b x y : ℕ) → a ≡ x → b ≡ y → a + b ≡ x + y
both_counts a b x y one other = rw (one, other) refl
