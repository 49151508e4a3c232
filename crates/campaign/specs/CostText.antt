-- What is read of a run, and a fault, as words of a line.
use Rattle.std.specs.Prelude.{ℕ, ◌-◌, Bool, true, false, List, [], ◌∷◌, ◌++◌, map, length, take, Option, Some, None}
use Rattle.std.specs.Prelude.{codes, decimal}
use Rattle.std.specs.Fmt.{signed_decimal}
use Rattle.std.specs.List.{join_with_byte}
use Rattle.ttp_base.specs.NodeSet.{set_bits}
use Rattle.ttp_base.specs.Text.{hex}
use Rattle.ttp_world.specs.declared.medl.Medl.{Medl}
use Rattle.ttp_world.specs.declared.script.Channels.{Channels}
use Rattle.ttp_world.specs.declared.script.Event.{Event}
use Rattle.ttp_world.specs.declared.script.Event.TheVariants as event
use Rattle.ttp_world.specs.declared.script.Fault.{Fault}
use Rattle.ttp_world.specs.declared.script.Fault.TheVariants as fault
use Rattle.ttp_world.specs.declared.script.Script.{Script}
use Rattle.ttp_world.specs.Hypothesis.{keeps}
use Rattle.ttp_world.specs.Returning.{has_arm, returns}
use Rattle.ttp_world.specs.Trace.{reason_word, member_digits, keep_line, back_line}
use Rattle.campaign.specs.declared.cost.Cost.{Cost}
use Rattle.campaign.specs.declared.cost.Leave.{Leave}
use Rattle.campaign.specs.declared.cost.Span.{Span}

-- The test: its line, without the line feed.

-- a line without its last byte, the line feed
abbrev pub unended : List ℕ → List ℕ
unended line = take (length line - 1) line

-- the words of the one test or the other
abbrev pub test_words_if : Medl → Script → Bool → List ℕ
test_words_if list script true = unended (back_line (returns list script))
test_words_if list script false = unended (keep_line (keeps list script))

-- the words of the script's test: its line, without the line feed
abbrev pub test_words : Medl → Script → List ℕ
test_words list script = test_words_if list script (has_arm script)

-- The cost.

-- words with commas between them, or a dash where there are none
abbrev pub listed : List (List ℕ) → List ℕ
listed [] = codes "-"
listed (word ∷ words) = join_with_byte 44 (word ∷ words)

-- when a node left and why
abbrev pub leave_word : Leave → List ℕ
leave_word leave =
    decimal leave.node ++ codes ":" ++ decimal leave.slot ++ codes ":" ++ reason_word leave.reason

-- two slots, or two dashes
abbrev pub span_words : Option Span → List ℕ
span_words None = codes "- -"
span_words (Some span) = decimal span.first ++ codes " " ++ decimal span.last

-- a membership, in as many digits as the list gives it
abbrev pub members_word : Medl → List ℕ → List ℕ
members_word list members = hex (member_digits list) (set_bits members)

-- the words of a cost
abbrev pub cost_words : Medl → Cost → List ℕ
cost_words list cost =
    codes "left " ++ listed (map leave_word cost.left)
    ++ codes " hurt " ++ listed (map decimal cost.hurt)
    ++ codes " split " ++ span_words cost.split
    ++ codes " end " ++ listed (map (members_word list) cost.end)

-- A fault as the line of a script. Nothing else is tried.

-- the letters of some channels
abbrev pub on_channels : Bool → Bool → List ℕ
on_channels true true = codes "AB"
on_channels true false = codes "A"
on_channels false b = codes "B"

-- the letters of a fault's channels
abbrev pub channels_word : Channels → List ℕ
channels_word channels = on_channels channels.a channels.b

-- the word for what a fault leaves of a frame
abbrev pub kind_word : Fault → List ℕ
kind_word fault.Silence = codes "silence"
kind_word fault.Noise = codes "noise"

-- the words of a loss, from a slot to another
abbrev pub loss_words : List ℕ → ℕ → Channels → Fault → ℕ → ℕ → List ℕ
loss_words word node channels kind from to =
    word ++ decimal node ++ codes " " ++ channels_word channels ++ codes " " ++ kind_word kind
    ++ codes " " ++ decimal from ++ codes " " ++ decimal to

-- a fault as the line of a script, without the line feed; nothing is tried but losses and jumps
abbrev pub fault_words : Event → List ℕ
fault_words (event.Send node channels kind from to) = loss_words (codes "send ") node channels kind from to
fault_words (event.Receive node channels kind from to) = loss_words (codes "receive ") node channels kind from to
fault_words (event.Jump node value slot) =
    codes "jump " ++ decimal node ++ codes " " ++ signed_decimal value ++ codes " " ++ decimal slot
fault_words _ = []
