-- The numbers of a script's lines.
--
-- Lines are counted from 1, as a text editor does. An event, and when a node is on and how its clock drifts, is stated
-- by one line; where lines that no reader takes say it twice, it is the last.
use Rattle.std.specs.Prelude.{ℕ, suc, Bool, true, false, ◌&&◌, ◌==◌, List, [], ◌∷◌, map, codes}
use Rattle.std.specs.Prelude.{if◌then◌else◌}
use Rattle.std.specs.List.{list_any}
use Rattle.causes.specs.declared.cause.LineNumbers.{LineNumbers}
use Rattle.ttp_base.specs.NodeSet.{below}
use Rattle.script_text.specs.Lines.{lines_of_file, words_of_line, word_at}
use Rattle.script_text.specs.Numbers.{is_text, is_number, decimal_value}
use Rattle.line_numbers.specs.declared.words.LineKind.{LineKind}
use Rattle.line_numbers.specs.declared.words.LineKind.TheVariants as kind

-- What a line says, by its first word.

-- the words that begin lines of events
abbrev pub event_verbs : List (List ℕ)
event_verbs =
    codes "send" ∷ codes "receive" ∷ codes "flip" ∷ codes "error" ∷ codes "jump" ∷ codes "arm" ∷ codes "write"
    ∷ codes "read" ∷ []

abbrev pub names_event : List ℕ → Bool
names_event word = list_any (λ text. is_text text word) event_verbs

-- a line whose first word is this
abbrev pub line_kind : List ℕ → LineKind
line_kind word =
    if is_text (codes "on") word then kind.On else (
    if is_text (codes "drift") word then kind.Drift else (
    if names_event word then kind.Event else kind.Other))

abbrev pub is_on_kind : LineKind → Bool
is_on_kind kind.On = true
is_on_kind _ = false

abbrev pub is_drift_kind : LineKind → Bool
is_drift_kind kind.Drift = true
is_drift_kind _ = false

abbrev pub is_event_kind : LineKind → Bool
is_event_kind kind.Event = true
is_event_kind _ = false

-- a word is the number of node k
abbrev pub is_of_node : ℕ → List ℕ → Bool
is_of_node k word = is_number word && (decimal_value word == k)

-- a line with these words says when node k is on, how its clock drifts, and that something happens
abbrev pub switches_on : ℕ → List (List ℕ) → Bool
switches_on k words = is_on_kind (line_kind (word_at words 0)) && is_of_node k (word_at words 1)

abbrev pub sets_drift : ℕ → List (List ℕ) → Bool
sets_drift k words = is_drift_kind (line_kind (word_at words 0)) && is_of_node k (word_at words 1)

abbrev pub states_event : List (List ℕ) → Bool
states_event words = is_event_kind (line_kind (word_at words 0))

-- Numbers of lines.

-- the number of the last of some lines that says such a thing, of which the first has this number; else the one found
-- before
abbrev pub last_line_saying : (List (List ℕ) → Bool) → ℕ → ℕ → List (List ℕ) → ℕ
last_line_saying says found number [] = found
last_line_saying says found number (line ∷ lines) =
    last_line_saying says (if says (words_of_line line) then number else found) (suc number) lines

-- the numbers of all that do
abbrev pub lines_saying : (List (List ℕ) → Bool) → ℕ → List (List ℕ) → List ℕ
lines_saying says number [] = []
lines_saying says number (line ∷ lines) =
    if says (words_of_line line) then number ∷ lines_saying says (suc number) lines
    else lines_saying says (suc number) lines

-- those of the lines of a file, for so many nodes
unfoldable pub line_numbers_in : ℕ → List ℕ → LineNumbers
line_numbers_in nodes bytes =
    let lines = lines_of_file bytes in
    record {
      on = map (λ k. last_line_saying (switches_on k) 0 1 lines) (below nodes);
      drift = map (λ k. last_line_saying (sets_drift k) 0 1 lines) (below nodes);
      events = lines_saying states_event 1 lines;
    }
