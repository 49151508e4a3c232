-- The forms of a call's words.
use Rattle.std.specs.Prelude.{List, [], ◌∷◌, ℕ, ◌^◌, ◌≤◌, nat_le, codes}
use Rattle.std.specs.Prelude.{Bool, true, false, ◌&&◌, Option, Some, None, option_map, option_and_then}
use Rattle.std.specs.Prelude.{if◌then◌else◌}
use Rattle.std.specs.Str.{bytes_eq}
use Rattle.ttp_base.specs.NodeSet.{most_nodes}
use Rattle.ttp_world.specs.declared.script.TheConstants.{SLOT_LIMIT}
use Rattle.commands.specs.Words.{number_below, numeral_named}
use Rattle.ttp_top.specs.declared.words.Command.{Command}
use Rattle.ttp_top.specs.declared.words.Command.TheVariants as command
use Rattle.ttp_top.specs.declared.words.Question.{Question}
use Rattle.ttp_top.specs.declared.words.Question.TheVariants as question

-- what a call is asked for
pub data Form : Type 0 where
  -- the slot table of the list of this name
  schedule : (list : List ℕ) → Form
  -- the trace of the script of this name, for the list of this name
  run : (list script : List ℕ) → Form
  -- the line of the hypothesis test, for the script and the list of these names
  keeps : (list script : List ℕ) → Form
  -- whether the text of the third name is a trace of the script of this name, for the list of this name
  verify : (list script trace : List ℕ) → Form
  -- the line of the test for one two-faced sender, this node, for the script and the list of these names
  precision : (list script : List ℕ) (node : ℕ) → Form
  -- the summary of a run of the list of this name, of so many slots, by the script that this number gives
  sample : (list : List ℕ) (slots number : ℕ) → Form
  -- which mode each node runs, for the text of the third name, which is to be a trace of the script of this name for
  -- the list of this name
  modes : (list script trace : List ℕ) → Form

-- a form is that of `run`
abbrev pub is_run : Option Form → Bool
is_run (Some (run list script)) = true
is_run _ = false

-- a form takes the text of a trace: `verify` and `modes`
abbrev pub takes_trace : Option Form → Bool
takes_trace (Some (verify list script trace)) = true
takes_trace (Some (modes list script trace)) = true
takes_trace _ = false

-- the forms that run a cluster, which is kept once all is written
abbrev pub runs_cluster : Option Form → Bool
runs_cluster (Some (run list script)) = true
runs_cluster (Some (sample list slots number)) = true
runs_cluster _ = false

-- the node that a word names: one or two decimal digits, of a number below the most nodes of a list
abbrev pub node_named : List ℕ → Option ℕ
node_named word = option_and_then (number_below most_nodes) (numeral_named 2 word)

-- the most digits of a number of slots, and of a number to draw by
abbrev pub number_digits : ℕ
number_digits = 20

-- the number of slots that a word names, of those that a script may have
abbrev pub slots_within : ℕ → Option ℕ
slots_within slots = if nat_le 1 slots && nat_le slots SLOT_LIMIT then Some slots else None

-- the number that a word names, if it is one of those
abbrev pub slots_named : List ℕ → Option ℕ
slots_named word = option_and_then slots_within (numeral_named number_digits word)

-- the number to draw by that a word names, of 64 bits
abbrev pub draw_named : List ℕ → Option ℕ
draw_named word = option_and_then (number_below (2 ^ 64)) (numeral_named number_digits word)

-- the form of `sample`, where both words are right
abbrev pub sample_of : List ℕ → Option ℕ → Option ℕ → Option Form
sample_of list (Some slots) (Some number) = Some (sample list slots number)
sample_of list _ _ = None

-- the form that words have, if they have one
abbrev pub form_of : List (List ℕ) → Option Form
form_of (verb ∷ list ∷ []) = if bytes_eq verb (codes "schedule") then Some (schedule list) else None
form_of (verb ∷ list ∷ script ∷ []) =
    if bytes_eq verb (codes "run") then Some (run list script)
    else (if bytes_eq verb (codes "keeps") then Some (keeps list script) else None)
form_of (verb ∷ list ∷ third ∷ fourth ∷ []) =
    if bytes_eq verb (codes "verify") then Some (verify list third fourth)
    else (if bytes_eq verb (codes "precision") then option_map (precision list third) (node_named fourth)
    else (if bytes_eq verb (codes "sample") then sample_of list (slots_named third) (draw_named fourth)
    else (if bytes_eq verb (codes "modes") then Some (modes list third fourth) else None)))
form_of _ = None

-- the form that a question of the code stands for, about the list and the script of these names
abbrev pub form_told : (list script : List ℕ) → Question → Form
form_told list script question.Keeps = keeps list script
form_told list script (question.Verify trace) = verify list script trace.now
form_told list script (question.Precision node) = precision list script node
form_told list script (question.Modes trace) = modes list script trace.now

-- the form that a command of the code stands for
abbrev pub form_asked : Command → Option Form
form_asked (command.Schedule list) = Some (schedule list.now)
form_asked (command.Run list script) = Some (run list.now script.now)
form_asked (command.Ask list script question) = Some (form_told list.now script.now question)
form_asked (command.Sample list slots number) = Some (sample list.now slots number)
form_asked command.NoForm = None

-- a summary is asked of a run with slots, not more than a script may have
abbrev pub HasSlots : Command → Type 0
HasSlots (command.Sample list slots number) = (1 ≤ slots) × (slots ≤ SLOT_LIMIT)
HasSlots _ = Unit {0}
