-- The forms of the words of `ttplab`.
use Rattle.std.specs.Prelude.{List, [], ◌∷◌, ℕ, ◌^◌, ◌≤◌, nat_le, codes, Bool, true, false, ◌&&◌, Option, Some, None}
use Rattle.std.specs.Prelude.{option_and_then, option_map, if◌then◌else◌}
use Rattle.std.specs.Str.{bytes_eq}
use Rattle.ttp_world.specs.declared.script.TheConstants.{SLOT_LIMIT}
use Rattle.commands.specs.Words.{number_below, numeral_named}
use Rattle.campaign.specs.declared.cost.Span.{Span as Slots}
use Rattle.picture_text.specs.declared.window.Span.{Span}
use Rattle.lab_top.specs.declared.words.Command.{Command}
use Rattle.lab_top.specs.declared.words.Command.TheVariants as command

-- what a call of `ttplab` is asked for
pub data LabForm : Type 0 where
  -- the waveform of the trace of this name
  wave : (trace : List ℕ) → LabForm
  -- the picture of the trace of this name, of the slots that are asked for, or else of those that are chosen
  picture : (trace : List ℕ) (asked : Option Span) → LabForm
  -- the campaign of the script of this name for the list of this name, over the slots from the first to the last
  campaign : (list script : List ℕ) (first last : ℕ) → LabForm
  -- why the node's entry of a slot, or its newest departure, is what it is, in the run of the script of this name for
  -- the list of this name
  why : (list script : List ℕ) (node : ℕ) (slot : Option ℕ) → LabForm
  -- the chart of the campaign of this name, of the slots that are asked for, or else of those that are chosen
  chart : (name : List ℕ) (asked : Option Span) → LabForm
  -- what is wrong with the list of this name, or with it and the script of this name
  check : (list : List ℕ) (script : Option (List ℕ)) → LabForm
  -- the frames on the bus, for the text of the third name, which is to be a trace of the script of this name for the
  -- list of this name
  frames : (list script trace : List ℕ) → LabForm
  -- the margins of the script of this name for the list of this name, over the drifts of all nodes, or over the jumps
  -- in the slots that are asked for
  margins : (list script : List ℕ) (asked : Option Slots) → LabForm
  -- the pairs of the script of this name for the list of this name, of which the first fault begins in the slots from
  -- the first to the last, and the second up to so many slots later
  pairs : (list script : List ℕ) (first last within : ℕ) → LabForm
  -- the script that this number gives for the list of this name, in a run of so many slots
  script_by : (list : List ℕ) (slots number : ℕ) → LabForm
  -- what each form writes, and which version this is
  help : LabForm
  version : LabForm

-- the forms of which want of memory may leave some first lines
abbrev pub may_be_begun : Option LabForm → Bool
may_be_begun (Some (campaign list script first last)) = true
may_be_begun (Some (check list script)) = true
may_be_begun (Some (margins list script asked)) = true
may_be_begun (Some (pairs list script first last within)) = true
may_be_begun _ = false

-- the forms that may end with status 1
abbrev pub tells_differences : Option LabForm → Bool
tells_differences (Some (check list script)) = true
tells_differences (Some (frames list script trace)) = true
tells_differences (Some (why list script node slot)) = true
tells_differences _ = false

-- the forms that read a list
abbrev pub reads_list : Option LabForm → Bool
reads_list (Some (check list script)) = true
reads_list (Some (campaign list script first last)) = true
reads_list (Some (frames list script trace)) = true
reads_list (Some (margins list script asked)) = true
reads_list (Some (pairs list script first last within)) = true
reads_list (Some (why list script node slot)) = true
reads_list (Some (script_by list slots number)) = true
reads_list _ = false

-- the most digits of a slot that is shown
abbrev pub slot_digits : ℕ
slot_digits = 5

-- the slot that a word names: 1 to 5 decimal digits
abbrev pub slot_named : List ℕ → Option ℕ
slot_named word = numeral_named slot_digits word

-- a form with the slots that two words name, if both name one
abbrev pub form_of_slots : (Option Span → LabForm) → Option ℕ → Option ℕ → Option LabForm
form_of_slots form (Some first) (Some last) = Some (form (Some (record { first = first; last = last })))
form_of_slots form _ _ = None

-- the most digits of a slot that ends a range
abbrev pub bound_digits : ℕ
bound_digits = 9

-- the slot that a word names, as an end of a range: 1 to 9 decimal digits
abbrev pub bound_named : List ℕ → Option ℕ
bound_named word = numeral_named bound_digits word

-- the campaign over the slots that two words name, if both name one and the first is not past the last
abbrev pub campaign_of_range : List ℕ → List ℕ → Option ℕ → Option ℕ → Option LabForm
campaign_of_range list script (Some first) (Some last) =
    if nat_le first last then Some (campaign list script first last) else None
campaign_of_range list script _ _ = None

-- the margins over the jumps in the slots that two words name, if both name one and the first is not past the last
abbrev pub margins_of_range : List ℕ → List ℕ → Option ℕ → Option ℕ → Option LabForm
margins_of_range list script (Some first) (Some last) =
    if nat_le first last then Some (margins list script (Some (record { first = first; last = last }))) else None
margins_of_range list script _ _ = None

-- the pairs of a range and of a distance that three words name, if each names one and the first slot is not past the
-- last
abbrev pub pairs_asked : List ℕ → List ℕ → Option ℕ → Option ℕ → Option ℕ → Option LabForm
pairs_asked list script (Some first) (Some last) (Some within) =
    if nat_le first last then Some (pairs list script first last within) else None
pairs_asked list script _ _ _ = None

-- the form of `why`, of a node and of a slot where both words are right
abbrev pub why_of_node : List ℕ → List ℕ → Option ℕ → Option LabForm
why_of_node list script (Some node) = Some (why list script node None)
why_of_node list script None = None

abbrev pub why_of_slot : List ℕ → List ℕ → Option ℕ → Option ℕ → Option LabForm
why_of_slot list script (Some node) (Some slot) = Some (why list script node (Some slot))
why_of_slot list script _ _ = None

-- the most digits of a number of slots, and of a number to draw by
abbrev pub number_digits : ℕ
number_digits = 20

-- the number of slots that a word names, of those that a script may have
abbrev pub slots_within : ℕ → Option ℕ
slots_within slots = if nat_le 1 slots && nat_le slots SLOT_LIMIT then Some slots else None

-- the number that a word names, if it is one of those
abbrev pub slots_named : List ℕ → Option ℕ
slots_named word = option_and_then slots_within (numeral_named number_digits word)

-- the number to draw by that a word names, of 64 bits
abbrev pub draw_named : List ℕ → Option ℕ
draw_named word = option_and_then (number_below (2 ^ 64)) (numeral_named number_digits word)

-- the form of `script`, where both words are right
abbrev pub script_of_words : List ℕ → Option ℕ → Option ℕ → Option LabForm
script_of_words list (Some slots) (Some number) = Some (script_by list slots number)
script_of_words list _ _ = None

-- the form that words have, if they have one
abbrev pub lab_form_of : List (List ℕ) → Option LabForm
lab_form_of (verb ∷ []) =
    if bytes_eq verb (codes "--help") then Some help
    else (if bytes_eq verb (codes "--version") then Some version else None)
lab_form_of (verb ∷ text ∷ []) =
    if bytes_eq verb (codes "wave") then Some (wave text)
    else (if bytes_eq verb (codes "picture") then Some (picture text None)
    else (if bytes_eq verb (codes "chart") then Some (chart text None)
    else (if bytes_eq verb (codes "check") then Some (check text None) else None)))
lab_form_of (verb ∷ list ∷ script ∷ []) =
    if bytes_eq verb (codes "check") then Some (check list (Some script))
    else (if bytes_eq verb (codes "margins") then Some (margins list script None) else None)
lab_form_of (verb ∷ text ∷ first ∷ last ∷ []) =
    if bytes_eq verb (codes "picture") then form_of_slots (picture text) (slot_named first) (slot_named last)
    else (if bytes_eq verb (codes "chart") then form_of_slots (chart text) (slot_named first) (slot_named last)
    else (if bytes_eq verb (codes "frames") then Some (frames text first last)
    else (if bytes_eq verb (codes "script") then script_of_words text (slots_named first) (draw_named last)
    else (if bytes_eq verb (codes "why") then why_of_node text first (bound_named last) else None))))
lab_form_of (verb ∷ list ∷ script ∷ first ∷ last ∷ []) =
    if bytes_eq verb (codes "campaign") then campaign_of_range list script (bound_named first) (bound_named last)
    else (if bytes_eq verb (codes "margins") then margins_of_range list script
    (bound_named first) (bound_named last) else (
    if bytes_eq verb (codes "why") then why_of_slot list script (bound_named first) (bound_named last) else None))
lab_form_of (verb ∷ list ∷ script ∷ first ∷ last ∷ within ∷ []) =
    if bytes_eq verb (codes "pairs")
    then pairs_asked list script (bound_named first) (bound_named last) (bound_named within) else None
lab_form_of _ = None

-- the form that a command of the code stands for
abbrev pub lab_form_asked : Command → Option LabForm
lab_form_asked (command.Wave trace) = Some (wave trace.now)
lab_form_asked (command.Picture trace asked) = Some (picture trace.now asked)
lab_form_asked (command.Campaign list script first last) = Some (campaign list.now script.now first last)
lab_form_asked (command.Why list script node slot) = Some (why list.now script.now node slot)
lab_form_asked (command.Chart name asked) = Some (chart name.now asked)
lab_form_asked (command.Check list script) = Some (check list.now (option_map (λ s. s.now) script))
lab_form_asked (command.Frames list script trace) = Some (frames list.now script.now trace.now)
lab_form_asked (command.Margins list script asked) = Some (margins list.now script.now asked)
lab_form_asked (command.Pairs list script first last within) = Some (pairs list.now script.now first last within)
lab_form_asked (command.Script list slots number) = Some (script_by list.now slots number)
lab_form_asked command.Help = Some help
lab_form_asked command.Version = Some version
lab_form_asked command.NoForm = None

-- a script is asked for of a run with slots, not more than a script may have
abbrev pub HasScriptSlots : Command → Type 0
HasScriptSlots (command.Script list slots number) = (1 ≤ slots) × (slots ≤ SLOT_LIMIT)
HasScriptSlots _ = Unit {0}
