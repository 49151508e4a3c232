-- The lines on the faults of a list and of a script.
use Rattle.std.specs.Prelude.{ℕ, ◌+◌, ◌-◌, ◌==◌, nat_lt, Bool, true, false, List, [], ◌∷◌, length, map, get_or, codes}
use Rattle.std.specs.Prelude.{Option, Some, None, slice_index_or, if◌then◌else◌}
use Rattle.toml.specs.Data.{Members, no_members, member}
use Rattle.ttp_base.specs.NodeSet.{below}
use Rattle.ttp_base.specs.Text.{Lines}
use Rattle.ttp_world.specs.declared.medl.Medl.{Medl}
use Rattle.medl_text.specs.declared.error.FieldName.{FieldName}
use Rattle.medl_text.specs.declared.error.FieldName.TheVariants as names
use Rattle.medl_text.specs.ListFile.{at_top, document_of}
use Rattle.script_text.specs.Lines.{lines_of_file}
use Rattle.script_errors.specs.declared.error.ScriptError.{ScriptError}
use Rattle.script_errors.specs.Errors.{script_errors}
use Rattle.script_errors.specs.Spots.{spot_text}
use Rattle.commands.specs.Read.{script_limit}
use Rattle.list_errors.specs.declared.error.ValueType.TheVariants as value_type
use Rattle.list_errors.specs.declared.error.Wrong.{Wrong}
use Rattle.list_errors.specs.declared.error.Wrong.TheVariants as wrong
use Rattle.list_errors.specs.Errors.{list_wrongs, rounds_said, modes_said}
use Rattle.list_places.specs.declared.lines.Place.{Place as ListPlace}
use Rattle.list_places.specs.Places.{found_places, stop_told}
use Rattle.stop_words.specs.Stops.{stop_words}
use Rattle.list_words.specs.Words.{list_fault_name, list_said}
use Rattle.check_words.specs.declared.lines.Place.{Place}
use Rattle.check_words.specs.Lines.{error_line}
use Rattle.check_words.specs.Script.{wrong_fault, script_said}

-- a place of these numbers
abbrev pub place_at : ℕ → ℕ → Place
place_at line column = record { line = line; column = column }

-- The list.

-- the line on a fault of a list
abbrev pub list_line : List ℕ → Option ℕ → Option ℕ → List ℕ → Place → Wrong → List ℕ
list_line name rounds modes stop place wrong =
    error_line name place (list_fault_name wrong) (list_said rounds modes stop wrong)

-- the place of a number among some, and the first byte where there is none
abbrev pub no_list_place : ListPlace
no_list_place = record { line = 0; column = 0 }

abbrev pub nth_place : List ListPlace → ℕ → Place
nth_place places i =
    if nat_lt i (length places)
    then place_at (slice_index_or places i no_list_place).line (slice_index_or places i no_list_place).column
    else place_at 1 1

-- the lines on faults at these places
abbrev pub list_fault_lines_at : List ℕ → Option ℕ → Option ℕ → List ℕ → List Wrong → List ListPlace → Lines
list_fault_lines_at name rounds modes stop wrongs places =
    map (λ i. list_line name rounds modes stop (nth_place places i)
    (get_or wrongs i wrong.NotToml)) (below (length wrongs))

-- those of a text that is to be a list
unfoldable pub list_fault_lines : List ℕ → List ℕ → Lines
list_fault_lines name text =
    let wrongs = list_wrongs text in
    list_fault_lines_at name (rounds_said text) (modes_said text) (stop_words text (stop_told text wrongs)) wrongs
    (found_places text wrongs)

-- the places of the keys at the top of a list of which rules speak: those of faults of their values
abbrev pub key_wrong : FieldName → Wrong
key_wrong name = wrong.WrongKind (at_top name) value_type.Integer

abbrev pub key_places : List ℕ → List ListPlace
key_places text = found_places text (key_wrong names.Window ∷ key_wrong names.Slot ∷ [])

abbrev pub window_place : List ℕ → Place
window_place text = nth_place (key_places text) 0

abbrev pub slots_place : List ℕ → Place
slots_place text = nth_place (key_places text) 1

-- The script.

-- the line of a number, counted from 1
abbrev pub line_numbered : List (List ℕ) → ℕ → List ℕ
line_numbered lines n = if n == 0 then [] else get_or lines (n - 1) []

-- the line on a fault of a script with these lines
abbrev pub script_line : List ℕ → List (List ℕ) → ScriptError → List ℕ
script_line name lines e =
    error_line name (place_at e.line (e.at.start + 1)) (wrong_fault e.wrong)
    (script_said (spot_text (line_numbered lines e.line) e.at) e.wrong)

-- a text is TOML with a key or more
abbrev pub has_member : Option Members → Bool
has_member None = false
has_member (Some no_members) = false
has_member (Some (member key d table)) = true

-- the faults of a script for a list, or for one that is at fault
unfoldable pub script_found : Option Medl → List ℕ → List ScriptError
script_found list text = script_errors list (has_member (document_of text)) text

-- the line on a script that is too large
abbrev pub too_large_line : List ℕ → List ℕ
too_large_line name = error_line name (place_at 1 1) (codes "too large") (codes "wanted at most 1048576 bytes")

-- those of a text that is to be a script
unfoldable pub script_fault_lines : Option Medl → List ℕ → List ℕ → Lines
script_fault_lines list name text =
    if nat_lt script_limit (length text) then too_large_line name ∷ []
    else map (script_line name (lines_of_file text)) (script_found list text)
