-- All that is wrong with a script, in the order of its lines.
--
-- The lines before a line are what those state that were taken, the newest first, each with its number.
use Rattle.std.specs.Prelude.{ℕ, ◌+◌, ◌-◌, Bool, true, false, not, ◌&&◌, ◌||◌, ◌==◌, List, [], ◌∷◌, ◌++◌}
use Rattle.std.specs.Prelude.{map, length, count_by, nat_le, nat_lt, Option, Some, None, is_some, unwrap_or}
use Rattle.std.specs.Prelude.{option_to_list, slice_index, if◌then◌else◌}
use Rattle.ttp_world.specs.declared.medl.Medl.{Medl}
use Rattle.ttp_world.specs.declared.script.Event.TheVariants as event
use Rattle.ttp_world.specs.declared.script.TheConstants.{SLOT_LIMIT}
use Rattle.script_text.specs.Lines.{is_comment, lines_of_file}
use Rattle.script_text.specs.Numbers.{is_number, decimal_value}
use Rattle.script_text.specs.Statement.{Statement, says_slots, says_on, says_drift, says_event, keyword_of}
use Rattle.script_text.specs.Faults.{slots_of, slots_said, on_said, drift_said, is_write_at, keyword_statements}
use Rattle.script_errors.specs.declared.error.Form.{Form}
use Rattle.script_errors.specs.declared.error.Form.TheVariants as form
use Rattle.script_errors.specs.declared.error.Part.{Part}
use Rattle.script_errors.specs.declared.error.Part.TheVariants as part
use Rattle.script_errors.specs.declared.error.Wrong.{Wrong}
use Rattle.script_errors.specs.declared.error.Wrong.TheVariants as wrong
use Rattle.script_errors.specs.declared.error.ScriptError.{ScriptError}
use Rattle.script_errors.specs.declared.spots.Spot.{Spot}
use Rattle.script_errors.specs.Spots.{spot, spots_of, spot_text, spot_texts, begins_with_mark, behind_mark}
use Rattle.script_errors.specs.Words.{form_named, form_word, parts_of, word_wrong, right_node}

-- What the lines before say.

-- a line of this number states this
pub record Taken : Type 0 where
  pub line : ℕ
  pub states : Statement

pub record Before : Type 0 where
  -- one of them names a form
  pub named : Bool
  -- what those state that were taken, the newest first
  pub taken : List Taken

-- what they state
abbrev pub stated : Before → List Statement
stated before = map (λ t. t.states) before.taken

-- no line came before
abbrev pub no_line_before : Before
no_line_before = record { named = false; taken = [] }

-- the slots of the run, which are as many as may be where no line says it
abbrev pub slots_or_most : Before → ℕ
slots_or_most before = unwrap_or (slots_of (stated before)) SLOT_LIMIT

-- the newest line that states such a thing
abbrev pub line_stating : (Statement → Bool) → List Taken → Option ℕ
line_stating test [] = None
line_stating test (t ∷ taken) = if test t.states then Some t.line else line_stating test taken

-- that says the slots of the run, when node k is on, and how its clock drifts
abbrev pub line_stating_slots : Before → Option ℕ
line_stating_slots before = line_stating (λ s. is_some (slots_said s)) before.taken

abbrev pub line_stating_on : Before → ℕ → Option ℕ
line_stating_on before k = line_stating (λ s. is_some (on_said k s)) before.taken

abbrev pub line_stating_drift : Before → ℕ → Option ℕ
line_stating_drift before k = line_stating (λ s. is_some (drift_said k s)) before.taken

-- Errors of one line.

-- the error of a word of a line, where something is wrong with it
abbrev pub error_of_word : ℕ → Spot → Wrong → ScriptError
error_of_word number at w = record { line = number; at = at; wrong = w }

abbrev pub errors_of_word : ℕ → Spot → Option Wrong → List ScriptError
errors_of_word number at w = map (error_of_word number at) (option_to_list w)

-- those of words that say such parts of a line
abbrev pub word_errors : Option Medl → ℕ → Option ℕ → ℕ → List ℕ → List Part → List Spot → List ScriptError
word_errors list slots _ number line [] words = []
word_errors list slots _ number line (p ∷ parts) [] = []
word_errors list slots node number line (p ∷ parts) (w ∷ words) =
    errors_of_word number w (word_wrong list slots node p (spot_text line w))
    ++ word_errors list slots node number line parts words

-- the node of a line, where it is right: the first word behind the one that names the form tells it
abbrev pub line_node : Option Medl → List ℕ → List Part → List Spot → Option ℕ
line_node list line [] words = None
line_node list line (p ∷ parts) [] = None
line_node list line (p ∷ parts) (w ∷ words) = right_node list p (spot_text line w)

-- a word says a slot of the run
abbrev pub is_slot_word : ℕ → List ℕ → Bool
is_slot_word slots word = is_number word && nat_le (decimal_value word) (slots - 1)

-- the last slot lies before the first, and both are slots of the run
abbrev pub backwards : ℕ → List ℕ → List ℕ → Option Wrong
backwards slots from to =
    if (is_slot_word slots from && is_slot_word slots to) && nat_lt (decimal_value to) (decimal_value from)
    then Some (wrong.Backwards (decimal_value from) (decimal_value to)) else None

-- the error of the first and the last slot of a line, which are told one behind the other
abbrev pub span_errors : ℕ → ℕ → List ℕ → List Part → List Spot → List ScriptError
span_errors slots number line (part.From ∷ part.To ∷ parts) (from ∷ to ∷ words) =
    errors_of_word number to (backwards slots (spot_text line from) (spot_text line to))
span_errors slots number line (p ∷ parts) (w ∷ words) = span_errors slots number line parts words
span_errors slots number line _ _ = []

-- those of a line's words by themselves
unfoldable pub own_errors : Option Medl → ℕ → ℕ → List ℕ → Form → List Spot → List ScriptError
own_errors list slots number line f words =
    word_errors list slots (line_node list line (parts_of f) words) number line (parts_of f) words
    ++ span_errors slots number line (parts_of f) words

-- a line before states it
abbrev pub again : (ℕ → Wrong) → Option ℕ → Option Wrong
again told None = None
again told (Some line) = Some (told line)

-- so many writes of a host in a slot reach the buffers of a list
abbrev pub buffer_wrong : Option Medl → ℕ → ℕ → ℕ → Option Wrong
buffer_wrong None node slot count = None
buffer_wrong (Some list) node slot count =
    if list.buffers == 1 then Some wrong.NoBuffer
    else if nat_le list.buffers count then Some (wrong.TooMany node slot (list.buffers - 1)) else None

-- what is wrong with what a line states beside the lines before
abbrev pub stated_wrong : Option Medl → Before → Statement → Option Wrong
stated_wrong list before (says_slots count) = again wrong.SlotsAgain (line_stating_slots before)
stated_wrong list before (says_on node slot) = again (wrong.OnAgain node) (line_stating_on before node)
stated_wrong list before (says_drift node value) = again (wrong.DriftAgain node) (line_stating_drift before node)
stated_wrong list before (says_event (event.Write node slot payload)) =
    buffer_wrong list node slot (count_by (is_write_at node slot) (stated before) + 1)
stated_wrong list before (says_event e) = None

-- the newest of some statements
abbrev pub newest_of : List Statement → Statement
newest_of [] = says_slots 0
newest_of (s ∷ ss) = s

-- what a line of a form states, whose words are these: what the reader of scripts takes it for
abbrev pub line_states : List ℕ → Form → List Spot → Statement
line_states line f words = newest_of (keyword_statements [] (spot_texts line words) (keyword_of (form_word f)))

-- errors, where there were none before
abbrev pub unless_told : List ScriptError → List ScriptError → List ScriptError
unless_told [] more = more
unless_told (e ∷ es) more = e ∷ es

-- those of a line that has as many words as its form, of which the first is this
unfoldable pub full_errors : Option Medl → Before → ℕ → List ℕ → Form → Spot → List Spot → List ScriptError
full_errors list before number line f first words =
    unless_told (own_errors list (slots_or_most before) number line f words)
    (errors_of_word number first (stated_wrong list before (line_states line f (first ∷ words))))

-- How many words there are.

-- the words before the first that begins a comment, and that one
abbrev pub before_comment : List ℕ → List Spot → List Spot
before_comment line [] = []
before_comment line (w ∷ words) = if is_comment (spot_text line w) then [] else w ∷ before_comment line words

abbrev pub comment_of : List ℕ → List Spot → Option Spot
comment_of line [] = None
comment_of line (w ∷ words) = if is_comment (spot_text line w) then Some w else comment_of line words

-- there are as many words as a form has behind the first
abbrev pub is_full : Form → List Spot → Bool
is_full f words = length words == length (parts_of f)

-- the words to look at, where another number of them is there: those before a comment
abbrev pub words_before_comment : List ℕ → Form → List Spot → List Spot
words_before_comment line f words = if is_full f words then words else before_comment line words

-- another number of words is there
abbrev pub count_errors : ℕ → Form → Spot → List Spot → Option Spot → List ScriptError
count_errors number f first words None = error_of_word number first (wrong.WordCount (length words + 1) f) ∷ []
count_errors number f first words (Some comment) = error_of_word number comment wrong.Comment ∷ []

abbrev pub length_errors : ℕ → List ℕ → Form → Spot → List Spot → List ScriptError
length_errors number line f first words =
    if is_full f words then [] else count_errors number f first words (comment_of line words)

-- Whole lines.

-- a line of this form stands before all that name one, and does not say the slots of the run
abbrev pub slots_errors : Before → ℕ → Form → Spot → List ScriptError
slots_errors before number form.Slots first = []
slots_errors before number f first = if before.named then [] else error_of_word number first wrong.NoSlots ∷ []

-- the errors of a line of a form, with its first word and the words behind it
unfoldable pub form_errors : Option Medl → Before → ℕ → List ℕ → Form → Spot → List Spot → List ScriptError
form_errors list before number line f first words =
    let here = words_before_comment line f words in
    slots_errors before number f first
    ++ (length_errors number line f first words
    ++ (if is_full f here then full_errors list before number line f first here else []))

-- the lines before, with one more that names a form
abbrev pub with_taken : Before → ℕ → Statement → Before
with_taken before number s = record { named = true; taken = record { line = number; states = s } ∷ before.taken }

-- it is taken where nothing is wrong with its words
abbrev pub taken_unless : List ScriptError → Before → ℕ → Statement → Before
taken_unless [] before number s = with_taken before number s
taken_unless (e ∷ es) before number s = record before { named = true }

unfoldable pub form_after : Option Medl → Before → ℕ → List ℕ → Form → Spot → List Spot → Before
form_after list before number line f first words =
    let here = words_before_comment line f words in
    if is_full f here
    then taken_unless (full_errors list before number line f first here) before number
    (line_states line f (first ∷ here))
    else record before { named = true }

-- those of a line with these words, whose first names this form, or none
abbrev pub named_errors : Option Medl → Before → ℕ → List ℕ → Spot → List Spot → Option Form → List ScriptError
named_errors list before number line first words None = error_of_word number first wrong.NoForm ∷ []
named_errors list before number line first words (Some f) = form_errors list before number line f first words

abbrev pub named_after : Option Medl → Before → ℕ → List ℕ → Spot → List Spot → Option Form → Before
named_after list before number line first words None = before
named_after list before number line first words (Some f) = form_after list before number line f first words

-- those of a line with these words
abbrev pub said_errors : Option Medl → Before → ℕ → List ℕ → List Spot → List ScriptError
said_errors list before number line [] = []
said_errors list before number line (first ∷ words) =
    if is_comment (spot_text line first) then []
    else named_errors list before number line first words (form_named (spot_text line first))

abbrev pub said_after : Option Medl → Before → ℕ → List ℕ → List Spot → Before
said_after list before number line [] = before
said_after list before number line (first ∷ words) =
    if is_comment (spot_text line first) then before
    else named_after list before number line first words (form_named (spot_text line first))

-- the first of these words, in line 1, begins with a byte order mark
abbrev pub is_marked : ℕ → List ℕ → List Spot → Bool
is_marked number line [] = false
is_marked number line (first ∷ words) = (number == 1) && begins_with_mark (spot_text line first)

-- the error of the mark
abbrev pub mark_errors : ℕ → List Spot → List ScriptError
mark_errors number [] = []
mark_errors number (first ∷ words) = error_of_word number first wrong.Mark ∷ []

-- the errors of a line
unfoldable pub line_errors : Option Medl → Before → ℕ → List ℕ → List ScriptError
line_errors list before number line =
    let words = spots_of line in
    if is_marked number line words
    then mark_errors number words ++ said_errors list before number line (behind_mark words)
    else said_errors list before number line words

-- the lines before, with one more
unfoldable pub before_next : Option Medl → Before → ℕ → List ℕ → Before
before_next list before number line =
    let words = spots_of line in
    said_after list before number line (if is_marked number line words then behind_mark words else words)

-- The whole file.

-- a line says something
abbrev pub says_something : List ℕ → List Spot → Bool
says_something line [] = false
says_something line (first ∷ words) = not (is_comment (spot_text line first))

-- no line says anything, which is told of the line behind the last
abbrev pub end_errors : Bool → ℕ → List ScriptError
end_errors said number = if said then [] else error_of_word number (spot 0 0) wrong.NothingSaid ∷ []

-- those of the lines from this number on, after these lines, of which one says something or none does
abbrev pub lines_errors : Option Medl → Before → Bool → ℕ → List (List ℕ) → List ScriptError
lines_errors list before said number [] = end_errors said number
lines_errors list before said number (line ∷ lines) =
    line_errors list before number line
    ++ lines_errors list (before_next list before number line) (said || says_something line (spots_of line))
    (number + 1) lines

-- the bytes begin with the mark of UTF-16
abbrev pub is_utf16 : List ℕ → Bool
is_utf16 bytes =
    ((slice_index bytes 0 == 255) && (slice_index bytes 1 == 254))
    || ((slice_index bytes 0 == 254) && (slice_index bytes 1 == 255))

-- the first word of a line that is no comment names no form: the file is a list. Else a line behind it may tell
abbrev pub list_errors_by : ℕ → List ℕ → List Spot → List ScriptError → List ScriptError
list_errors_by number line [] more = more
list_errors_by number line (first ∷ words) more =
    if is_comment (spot_text line first) then more
    else if is_some (form_named (spot_text line first)) then [] else error_of_word number first wrong.IsList ∷ []

-- the error of a file that is a list, from the line of this number on
abbrev pub list_errors : ℕ → List (List ℕ) → List ScriptError
list_errors number [] = []
list_errors number (line ∷ lines) = list_errors_by number line (spots_of line) (list_errors (number + 1) lines)

-- all errors of a file, which may be a list instead
unfoldable pub script_errors : Option Medl → Bool → List ℕ → List ScriptError
script_errors list may_be_list bytes =
    if is_utf16 bytes then error_of_word 1 (spot 0 0) wrong.Utf16 ∷ []
    else unless_told (if may_be_list then list_errors 1 (lines_of_file bytes) else [])
    (lines_errors list no_line_before false 1 (lines_of_file bytes))
