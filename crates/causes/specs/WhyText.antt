-- The text of `ttplab why`.
use Rattle.std.specs.Fmt.{signed_decimal}
use Rattle.std.specs.Prelude.{Bool, List, None, Option, Some, [], codes, decimal, false, filter, flat_map, get_or}
use Rattle.std.specs.Prelude.{if◌then◌else◌, length, map, nat_lt, option_map, reverse, slice_get, suc, true}
use Rattle.std.specs.Prelude.{unwrap_or, ℕ, ◌&&◌, ◌++◌, ◌==◌, ◌∷◌}
use Rattle.std.specs.Str.{bytes_eq}
use Rattle.campaign.specs.CostText.{channels_word, fault_words, listed}
use Rattle.ttp_world.specs.ZerosWorld.{zeros_world}
use Rattle.causes.specs.Members.{entry_at_spot, newest_entry_of}
use Rattle.causes.specs.Reduced.{entry_alone, is_needed, is_same_word}
use Rattle.causes.specs.RunSlots.{RunSlots, slots_of_run}
use Rattle.causes.specs.Story.{has_spot, lines_told, states_fault, story}
use Rattle.causes.specs.declared.cause.Because.{Because}
use Rattle.causes.specs.declared.cause.ClockNote.{ClockNote}
use Rattle.causes.specs.declared.cause.LineNumbers.{LineNumbers}
use Rattle.causes.specs.declared.cause.Miss.{Miss}
use Rattle.causes.specs.declared.cause.ScriptLine.{ScriptLine}
use Rattle.causes.specs.declared.cause.Spot.{Spot}
use Rattle.causes.specs.declared.cause.Story.{Story}
use Rattle.causes.specs.declared.cause.Told.{Told}
use Rattle.ttp_base.specs.Text.{Lines, gather, newline}
use Rattle.ttp_world.specs.Hypothesis.{needed}
use Rattle.ttp_world.specs.Script.{drift_of, on_slot}
use Rattle.ttp_world.specs.Trace.{entry_pieces, entry_word, number_or_dash, peer_of}
use Rattle.ttp_world.specs.declared.medl.Medl.{Medl}
use Rattle.ttp_world.specs.declared.node.Entry.{Entry}
use Rattle.ttp_world.specs.declared.script.Event.{Event}
use Rattle.ttp_world.specs.declared.script.Script.{Script}
use Rattle.causes.specs.declared.cause.Because.TheVariants as because
use Rattle.ttp_world.specs.declared.script.Event.TheVariants as event
use Rattle.causes.specs.declared.cause.ScriptLine.TheVariants as line
use Rattle.causes.specs.declared.cause.Miss.TheVariants as miss

-- The numbers of lines.

abbrev pub number_of_line : LineNumbers → ScriptLine → ℕ
number_of_line numbers (line.Event place) = get_or numbers.events place 0
number_of_line numbers (line.On k) = get_or numbers.on k 0
number_of_line numbers (line.Drift k) = get_or numbers.drift k 0

-- lines in the order of the file, each once
abbrev pub insert_line : LineNumbers → ScriptLine → List ScriptLine → List ScriptLine
insert_line numbers l [] = l ∷ []
insert_line numbers l (other ∷ others) =
    elim (nat_lt (number_of_line numbers l) (number_of_line numbers other)) [
      | true ↦ l ∷ other ∷ others
      | false ↦ elim (number_of_line numbers l == number_of_line numbers other) [
        | true ↦ other ∷ others
        | false ↦ other ∷ insert_line numbers l others
      ]
    ]

abbrev pub in_file_order : LineNumbers → List ScriptLine → List ScriptLine
in_file_order numbers [] = []
in_file_order numbers (l ∷ lines) = insert_line numbers l (in_file_order numbers lines)

-- Words.

abbrev pub number_words : List ℕ → List ℕ
number_words numbers = listed (map decimal numbers)

abbrev pub number_word : LineNumbers → ScriptLine → List ℕ
number_word numbers l = decimal (number_of_line numbers l)

-- the numbers of lines with commas between them, as they stand
abbrev pub line_number_words : LineNumbers → List ScriptLine → List ℕ
line_number_words numbers lines = listed (map (number_word numbers) lines)

abbrev pub node_word : ℕ → List ℕ
node_word k = codes "node " ++ decimal k

abbrev pub spot_word : Spot → List ℕ
spot_word spot = decimal spot.slot ++ codes ":" ++ decimal spot.node

-- A line of the script.

abbrev pub named_event_words : Event → List ℕ
named_event_words (event.Flip node channels bit slot) =
    codes "flip " ++ decimal node ++ codes " " ++ channels_word channels ++ codes " " ++ decimal bit
    ++ codes " " ++ decimal slot
named_event_words (event.Error node value from to) =
    codes "error " ++ decimal node ++ codes " " ++ signed_decimal value ++ codes " " ++ decimal from
    ++ codes " " ++ decimal to
named_event_words (event.Arm node slot) = codes "arm " ++ decimal node ++ codes " " ++ decimal slot
named_event_words e = fault_words e

abbrev pub line_words : Script → ScriptLine → List ℕ
line_words script (line.Event place) = unwrap_or (option_map named_event_words (slice_get script.events place)) []
line_words script (line.On k) =
    codes "on " ++ decimal k ++ codes " " ++ number_or_dash (on_slot script k)
line_words script (line.Drift k) =
    codes "drift " ++ decimal k ++ codes " " ++ signed_decimal (drift_of script k)

-- Why a channel brought no frame that is accepted.

abbrev pub uncorrected_words : ClockNote → List ℕ
uncorrected_words note =
    if note.is_uncorrected then codes ", " ++ node_word note.node ++ codes " not corrected" else []

abbrev pub joined_words : ℕ → Option ℕ → List ℕ
joined_words k None = []
joined_words k (Some slot) = codes ", " ++ node_word k ++ codes " joined in slot " ++ decimal slot

abbrev pub note_words : ClockNote → List ℕ
note_words note = uncorrected_words note ++ joined_words note.node note.joined

abbrev pub miss_words : Medl → LineNumbers → Miss → List ℕ
miss_words list numbers (miss.Deaf l) = codes "AB silence of line " ++ decimal (number_of_line numbers l)
miss_words list numbers (miss.Off p) = node_word p ++ codes " is off"
miss_words list numbers (miss.Left p slot) = node_word p ++ codes " left in slot " ++ decimal slot
miss_words list numbers (miss.Listens p) = node_word p ++ codes " listens"
miss_words list numbers (miss.Retries p) = node_word p ++ codes " retries"
miss_words list numbers (miss.Elsewhere p) = node_word p ++ codes " is at another place"
miss_words list numbers (miss.Silenced lines) = codes "silence of line " ++ line_number_words numbers lines
miss_words list numbers (miss.Noisy l) = codes "noise of line " ++ decimal (number_of_line numbers l)
miss_words list numbers (miss.Collision nodes) = codes "collision of nodes " ++ number_words nodes
miss_words list numbers (miss.Flipped lines) = codes "flips of line " ++ line_number_words numbers lines
miss_words list numbers (miss.ColdStart p) = codes "cold start of " ++ node_word p
miss_words list numbers (miss.Clock deviation notes) =
    codes "clock " ++ signed_decimal deviation ++ codes " past window " ++ signed_decimal list.window
    ++ flat_map note_words notes
miss_words list numbers (miss.Differs holds member lacks) =
    node_word holds ++ codes " holds " ++ node_word member ++ codes " and " ++ node_word lacks ++ codes " does not"
miss_words list numbers (miss.HoldsNeither p k x) =
    node_word p ++ codes " holds neither " ++ node_word k ++ codes " nor " ++ node_word x
miss_words list numbers (miss.HoldsBoth p k x) =
    node_word p ++ codes " holds " ++ node_word k ++ codes " and " ++ node_word x

-- both have a part: what they say, once where it is one text
abbrev pub each_words : List ℕ → List ℕ → List ℕ
each_words a b = if bytes_eq a b then codes "AB " ++ a else codes "A " ++ a ++ codes ", B " ++ b

-- What decided an entry.

abbrev pub lacked_words : ℕ → List ℕ → List ℕ
lacked_words p [] = []
lacked_words p (j ∷ nodes) = codes ", " ++ node_word p ++ codes " lacks " ++ number_words (j ∷ nodes) ++ codes " too"

abbrev pub because_words : Medl → LineNumbers → Because → List ℕ
because_words list numbers (because.SwitchedOn slot) = codes "it is switched on in slot " ++ decimal slot
because_words list numbers because.NeverOn = codes "it is never switched on"
because_words list numbers (because.NothingToJoin slot) = codes "no frame to join on since slot " ++ decimal slot
because_words list numbers (because.TakesOver p) = codes "it takes over the C-state of " ++ node_word p
because_words list numbers (because.Silence count) = codes "silence in " ++ decimal count ++ codes " slots"
because_words list numbers because.OwnSlot = codes "its own slot"
because_words list numbers (because.NoneSinceColdStart slot) =
    codes "no frame accepted since its cold start in slot " ++ decimal slot
because_words list numbers (because.LeftIn slot) = codes "it left in slot " ++ decimal slot
because_words list numbers (because.NoneSinceOwn slot) =
    codes "no frame accepted since its own in slot " ++ decimal slot
because_words list numbers (because.Outvoted accepted rejected since peer lacked) =
    codes "accepted " ++ decimal accepted ++ codes " and rejected " ++ decimal rejected ++ codes " since slot "
    ++ decimal since ++ lacked_words peer lacked
because_words list numbers because.DueFrame = codes "the frame that is due"
because_words list numbers (because.HoldsOne p held lacked) =
    node_word p ++ codes " holds " ++ node_word held ++ codes " and not " ++ node_word lacked
because_words list numbers (because.HoldsNot p lacked) =
    node_word p ++ codes " does not hold " ++ node_word lacked
because_words list numbers (because.Missed why) = miss_words list numbers why
because_words list numbers (because.MissedOnEach a b) =
    each_words (miss_words list numbers a) (miss_words list numbers b)

-- Lines.

-- the first line
abbrev pub why_head : Medl → Script → ℕ → ℕ → List ℕ
why_head list script k slot =
    codes "ttplab why 1 nodes " ++ decimal (length list.slots) ++ codes " slots " ++ decimal script.slots
    ++ codes " node " ++ decimal k ++ codes " slot " ++ decimal slot ++ newline

-- how the line of an entry begins in a trace, too
abbrev pub entry_head : ℕ → ℕ → Entry → List ℕ
entry_head slot k e =
    gather [] (codes "slot " ∷ decimal slot ∷ codes " node " ∷ decimal k
    ∷ entry_pieces (entry_word e) (number_or_dash (peer_of k e)))

-- what the root adds, by its entry and slot
abbrev pub root_part : Entry → ℕ → List ℕ
root_part e slot = codes ", by the " ++ entry_word e ++ codes " of slot " ++ decimal slot

abbrev pub root_words : RunSlots → List Spot → List ℕ
root_words run [] = []
root_words run (spot ∷ spots) = root_part (entry_at_spot run spot) spot.slot

-- the line of an entry by what it names, in the orders of the file and of the story
abbrev pub named_line : Medl → LineNumbers → Spot → Entry → List ScriptLine → List Spot → Because → List ℕ → List ℕ
named_line list numbers spot e lines entries why origin =
    entry_head spot.slot spot.node e
    ++ codes " lines " ++ line_number_words numbers lines
    ++ codes " entries " ++ listed (map spot_word entries)
    ++ codes " because " ++ because_words list numbers why ++ origin ++ newline

-- the line of an entry of a story, of which these spots are the oldest first
abbrev pub told_line : Medl → LineNumbers → RunSlots → List Spot → List Spot → Told → List ℕ
told_line list numbers run spots origin told =
    named_line list numbers told.spot (entry_at_spot run told.spot) (in_file_order numbers told.cause.lines)
    (filter (has_spot told.cause.entries) spots) told.cause.because (root_words run origin)

-- the lines of what is told, the newest first, of which the first alone has the root
abbrev pub told_lines : Medl → LineNumbers → RunSlots → List Spot → List Spot → List Told → Lines
told_lines list numbers run spots origin [] = []
told_lines list numbers run spots origin (told ∷ older) =
    told_line list numbers run spots origin told ∷ told_lines list numbers run spots [] older

-- the lines of a story, the oldest first
abbrev pub story_lines : Medl → LineNumbers → RunSlots → Story → Lines
story_lines list numbers run s =
    reverse (told_lines list numbers run (reverse (map (λ told. told.spot) s.told)) s.root s.told)

-- the word for whether a line is needed
abbrev pub needed_if : Bool → List ℕ
needed_if true = codes "yes"
needed_if false = codes "no"

abbrev pub needed_word : Medl → Script → List ScriptLine → ℕ → ℕ → Entry → Bool → ScriptLine → List ℕ
needed_word list script lines slot k e suffices l = elim (suffices && states_fault script l) [
  | true ↦ needed_if (is_needed list script lines slot k e l)
  | false ↦ codes "-"
]

-- the line of a line of the script
abbrev pub script_line_line : Script → LineNumbers → ScriptLine → List ℕ → List ℕ
script_line_line script numbers l needed =
    codes "line " ++ decimal (number_of_line numbers l) ++ codes " needed " ++ needed ++ codes " "
    ++ line_words script l ++ newline

-- the last line
abbrev pub alone_line : Entry → Bool → List ℕ
alone_line e true = codes "alone yes" ++ newline
alone_line e false = codes "alone no " ++ entry_word e ++ newline

-- The whole.

-- by the story of an entry of node k in a slot, its lines in the order of the file, and the entry in the run of these
-- alone
abbrev pub why_lines_of : Medl → Script → LineNumbers → RunSlots → ℕ → ℕ → Story → List ScriptLine → Entry → Lines
why_lines_of list script numbers run k slot s lines alone =
    let e = newest_entry_of k run in
    let suffices = is_same_word e alone in
    why_head list script k slot
    ∷ map (λ l. script_line_line script numbers l (needed_word list script lines slot k e suffices l)) lines
    ++ story_lines list numbers run s
    ++ alone_line alone suffices ∷ []

-- by the story
abbrev pub why_lines_told : Medl → Script → LineNumbers → RunSlots → ℕ → ℕ → Story → Lines
why_lines_told list script numbers run k slot s =
    let lines = in_file_order numbers (lines_told s) in
    why_lines_of list script numbers run k slot s lines (entry_alone list script lines slot k)

-- of node k's entry in the newest slot of a run
abbrev pub why_lines_in : Medl → Script → LineNumbers → RunSlots → ℕ → ℕ → Lines
why_lines_in list script numbers run k slot =
    why_lines_told list script numbers run k slot (story script run k)

-- what `ttplab why` writes of node k's entry in a slot
abbrev pub why_text : Medl → Script → LineNumbers → ℕ → ℕ → Lines
why_text list script numbers k slot =
    why_lines_in list script numbers (slots_of_run list script (zeros_world list script (suc slot))) k slot
