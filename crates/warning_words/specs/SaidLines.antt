-- The lines of a script that state something, in their order.
use Rattle.std.specs.Prelude.{ℕ, ◌+◌, Bool, true, false, not, ◌&&◌, ◌||◌, ◌==◌, List, [], ◌∷◌, ◌++◌, Option, Some, None}
use Rattle.std.specs.Prelude.{nat_lt, filter, get_or, position, if◌then◌else◌}
use Rattle.ttp_base.specs.NodeSet.{most_nodes, has_node}
use Rattle.script_text.specs.Lines.{lines_of_file}
use Rattle.script_text.specs.Numbers.{is_number, decimal_value}
use Rattle.script_errors.specs.declared.error.Form.{Form}
use Rattle.script_errors.specs.declared.error.Form.TheVariants as form
use Rattle.script_errors.specs.declared.spots.Spot.{Spot}
use Rattle.script_errors.specs.Spots.{spots_of, spot_text}
use Rattle.script_errors.specs.Words.{form_named}
use Rattle.warning_words.specs.declared.stated.SaidLine.{SaidLine}
use Rattle.warning_words.specs.declared.stated.Wanted.{Wanted}
use Rattle.warning_words.specs.declared.stated.Wanted.TheVariants as wanted

-- the forms of the lines that say nothing of slots
abbrev pub is_slots_form : Form → Bool
is_slots_form form.Slots = true
is_slots_form _ = false

abbrev pub is_on_form : Form → Bool
is_on_form form.On = true
is_on_form _ = false

abbrev pub is_drift_form : Form → Bool
is_drift_form form.Drift = true
is_drift_form _ = false

-- the others say what happens in slots
abbrev pub is_slot_form : Form → Bool
is_slot_form form = not (is_slots_form form || (is_on_form form || is_drift_form form))

-- the number that the second word of a line is: its node, or 0 where it is none
abbrev pub number_behind : List ℕ → List Spot → ℕ
number_behind line [] = 0
number_behind line (w ∷ words) =
    if is_number (spot_text line w) then decimal_value (spot_text line w) else 0

-- a line of this number, with this first word, which names a form, and those behind it
abbrev pub said_with : ℕ → List ℕ → Spot → List Spot → Form → SaidLine
said_with number line first words f =
    record { line = number; column = first.start + 1; form = f; number = number_behind line words }

-- a line of this number whose first word names this form, if it names one
abbrev pub said_if : ℕ → List ℕ → Spot → List Spot → Option Form → List SaidLine
said_if number line first words None = []
said_if number line first words (Some f) = said_with number line first words f ∷ []

abbrev pub said_of : ℕ → List ℕ → List Spot → List SaidLine
said_of number line [] = []
said_of number line (first ∷ words) = said_if number line first words (form_named (spot_text line first))

-- a line says what happens in slots
abbrev pub says_event : SaidLine → Bool
says_event s = is_slot_form s.form

abbrev pub says_other : SaidLine → Bool
says_other s = not (is_slot_form s.form)

-- the lines that say what happens in slots, of lines of which the first has this number, and the others
abbrev pub events_from : ℕ → List (List ℕ) → List SaidLine
events_from number [] = []
events_from number (line ∷ lines) =
    filter says_event (said_of number line (spots_of line)) ++ events_from (number + 1) lines

abbrev pub others_from : ℕ → List (List ℕ) → List SaidLine
others_from number [] = []
others_from number (line ∷ lines) =
    filter says_other (said_of number line (spots_of line)) ++ others_from (number + 1) lines

-- those of a text
unfoldable pub event_lines : List ℕ → List SaidLine
event_lines text = events_from 1 (lines_of_file text)

unfoldable pub stating_lines : List ℕ → List SaidLine
stating_lines text = others_from 1 (lines_of_file text)

-- Look-ups.

-- a number is that of a node among some
abbrev pub is_node_of : List ℕ → ℕ → Bool
is_node_of nodes number = nat_lt number most_nodes && has_node nodes number

-- a line is one that is wanted
abbrev pub is_wanted : Wanted → SaidLine → Bool
is_wanted wanted.Slots s = is_slots_form s.form
is_wanted (wanted.On node) s = is_on_form s.form && (s.number == node)
is_wanted (wanted.OnAmong nodes) s = is_on_form s.form && is_node_of nodes s.number
is_wanted (wanted.DriftAmong nodes) s = is_drift_form s.form && is_node_of nodes s.number

-- the line where there is none: a right script has each that is asked for
abbrev pub no_line : SaidLine
no_line = record { line = 1; column = 1; form = form.Slots; number = 0 }

-- the line at a place among some
abbrev pub line_at : List SaidLine → Option ℕ → SaidLine
line_at lines None = no_line
line_at lines (Some place) = get_or lines place no_line

-- the first line that is wanted, of those that say nothing of slots
abbrev pub first_wanted : Wanted → List SaidLine → SaidLine
first_wanted w others = line_at others (position (is_wanted w) others)

-- the line of the event at a place among those of the script, or that of the slots of the run
abbrev pub cause_line : Option ℕ → List SaidLine → List SaidLine → SaidLine
cause_line None events others = first_wanted wanted.Slots others
cause_line (Some place) events others = get_or events place no_line
