-- A trace as a whole: its first line, the lines of each slot, and the lines of the tests.
use Rattle.std.specs.Prelude.{ℕ, ◌+◌, ◌-◌, ◌==◌, List, [], ◌∷◌, length, take, drop, Option, Some, None, option_and_then}
use Rattle.std.specs.Prelude.{Result, Ok, Err, if◌then◌else◌}
use Rattle.std.specs.Str.{bytes_eq}
use Rattle.ttp_base.specs.Text.{Lines, newline, lines_of}
use Rattle.ttp_world.specs.declared.keep.Back.{Back}
use Rattle.ttp_world.specs.declared.keep.Keep.{Keep}
use Rattle.line_reader.specs.declared.trace_line.TraceLine.{TraceLine}
use Rattle.line_reader.specs.declared.trace_line.TraceLine.TheVariants as line
use Rattle.line_reader.specs.Reading.{line_in}
use Rattle.whole_trace.specs.declared.due.Due.{Due}
use Rattle.whole_trace.specs.declared.due.Due.TheVariants as due
use Rattle.whole_trace.specs.declared.due.Outline.{Outline}
use Rattle.whole_trace.specs.declared.shown.Head.{Head}
use Rattle.whole_trace.specs.declared.shown.HostLine.{HostLine}
use Rattle.whole_trace.specs.declared.shown.HostLine.TheVariants as host
use Rattle.whole_trace.specs.declared.shown.NodeShown.{NodeShown}
use Rattle.whole_trace.specs.Due.{due_after, ending}

-- Lines as values.

-- what a line says, its line feed with it
abbrev pub value_of : List ℕ → Option TraceLine
value_of line =
    if bytes_eq (drop (length line - 1) line) newline then line_in (take (length line - 1) line) else None

-- Which lines are due.

abbrev pub due_behind : Due → List ℕ → Option Due
due_behind due line = option_and_then (due_after due) (value_of line)

abbrev pub one_line_later : Result Outline ℕ → Result Outline ℕ
one_line_later (Ok outline) = Ok outline
one_line_later (Err line) = Err (line + 1)

abbrev pub or_missing : Option Outline → Result Outline ℕ
or_missing None = Err 1
or_missing (Some outline) = Ok outline

abbrev pub judged_behind : (Due → Result Outline ℕ) → Option Due → Result Outline ℕ
judged_behind others None = Err 1
judged_behind others (Some due) = one_line_later (others due)

-- what the first line and the last ones of a trace say, where these lines are due behind what came before; or the first
-- of them that is not due or is missing, counted from 1
abbrev pub judged : Due → Lines → Result Outline ℕ
judged due [] = or_missing (ending due)
judged due (line ∷ lines) = judged_behind (λ d. judged d lines) (due_behind due line)

-- The slots of a trace.

-- the lines of a slot: those of its nodes, and what hosts wrote and then read
pub record SlotLines : Type 0 where
  pub nodes : List NodeShown
  pub hosts : List HostLine

-- the lines of a slot that was begun, and of the slots behind it
pub record SlotsFrom : Type 0 where
  pub front : SlotLines
  pub slots : List SlotLines

abbrev pub no_lines : SlotLines
no_lines = record { nodes = []; hosts = [] }

abbrev pub no_slots : SlotsFrom
no_slots = record { front = no_lines; slots = [] }

abbrev pub with_shown_node : NodeShown → SlotLines → SlotLines
with_shown_node node slot = record { nodes = node ∷ slot.nodes; hosts = slot.hosts }

-- no line of a node follows in the slot
abbrev pub with_host : HostLine → SlotsFrom → SlotsFrom
with_host line from = record { front = record { nodes = []; hosts = line ∷ from.front.hosts }; slots = from.slots }

-- a slot begins at the line of node 0
abbrev pub with_node_line : ℕ → NodeShown → SlotsFrom → SlotsFrom
with_node_line k node from =
    if k == 0
    then record { front = no_lines; slots = with_shown_node node from.front ∷ from.slots }
    else record { front = with_shown_node node from.front; slots = from.slots }

-- a line before others
abbrev pub with_line : TraceLine → SlotsFrom → SlotsFrom
with_line (line.Node slot k w peer message wide members accepted rejected a offset) from =
    with_node_line k (record {
      word = w;
      peer = peer;
      message = message;
      members = members;
      accepted = accepted;
      rejected = rejected;
      ack = a;
      offset = offset;
    }) from
with_line (line.Write slot k number) from = with_host (host.Write k number) from
with_line (line.Read slot k source number payload) from = with_host (host.Read k source number payload) from
with_line _ from = no_slots

abbrev pub with_value : Option TraceLine → SlotsFrom → SlotsFrom
with_value None from = no_slots
with_value (Some v) from = with_line v from

abbrev pub slots_from : Lines → SlotsFrom
slots_from [] = no_slots
slots_from (line ∷ lines) = with_value (value_of line) (slots_from lines)

-- The whole.

pub record WholeTrace : Type 0 where
  pub head : Head
  pub slots : List SlotLines
  pub keep : Keep
  pub back : Option Back

abbrev pub with_slots : Lines → Outline → WholeTrace
with_slots lines outline = record {
  head = outline.head;
  slots = (slots_from (drop 1 lines)).slots;
  keep = outline.keep;
  back = outline.back;
}

abbrev pub whole_or_line : Lines → Result Outline ℕ → Result WholeTrace ℕ
whole_or_line lines (Ok outline) = Ok (with_slots lines outline)
whole_or_line lines (Err line) = Err line

-- the trace that a text is, or its first line that is not due or is missing, counted from 1
abbrev pub whole_in : List ℕ → Result WholeTrace ℕ
whole_in text = whole_or_line (lines_of text) (judged due.First (lines_of text))
