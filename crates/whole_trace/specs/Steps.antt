-- One line more of a text, and the places from which a text is gone over again.
use Rattle.std.specs.Prelude.{ℕ, ◌+◌, ◌≡◌, ◌<◌, ◌≤◌, ◌==◌, nat_le, nat_lt, Bool, true, false}
use Rattle.std.specs.Prelude.{◌&&◌, List, ◌∷◌, ◌++◌, length, Some, codes, decimal}
use Rattle.std.specs.Prelude.{Result, Ok, Err, IsTrue}
use Rattle.ttp_base.specs.NodeSet.{most_nodes}
use Rattle.ttp_base.specs.Text.{Lines, lines_of}
use Rattle.line_reader.specs.declared.trace_line.TraceLine.{TraceLine}
use Rattle.line_reader.specs.declared.trace_line.TraceLine.TheVariants as line
use Rattle.whole_trace.specs.declared.due.Due.{Due}
use Rattle.whole_trace.specs.declared.due.Due.TheVariants as due
use Rattle.whole_trace.specs.declared.due.Outline.{Outline}
use Rattle.whole_trace.specs.declared.shown.Head.{Head}
use Rattle.whole_trace.specs.declared.shown.NodeShown.{NodeShown}
use Rattle.whole_trace.specs.Due.{is_head, due_after, next_node}
use Rattle.whole_trace.specs.Whole.{value_of, judged, with_node_line, slots_from}

-- a text begins with a line of this value, which is due, and behind it these are due and left
pub record IsLineStep (due : Due) (text : List ℕ) (v : TraceLine) (then : Due) (rest : List ℕ) : Type 0 where
  pub line : List ℕ
  pub cut : lines_of text ≡ line ∷ lines_of rest
  pub value : value_of line ≡ Some v
  pub next : due_after due v ≡ Some then
  pub shorter : length rest < length text

-- the first line's numbers are within the limits, if it came
abbrev pub has_head : Due → Bool
has_head due.First = true
has_head (due.Node head slot k) = is_head head
has_head (due.Host head slot has_read) = is_head head
has_head (due.Back head k) = is_head head
has_head (due.Nothing head k b) = is_head head

abbrev pub is_taken : Result Outline ℕ → Bool
is_taken (Ok outline) = true
is_taken (Err line) = false

-- a trace goes on with these lines
abbrev pub GoesOn : Due → Lines → Type 0
GoesOn due lines = IsTrue (is_taken (judged due lines))

abbrev pub is_host_due : Due → Bool
is_host_due (due.Host head slot has_read) = true
is_host_due _ = false

abbrev pub is_host_line : TraceLine → Bool
is_host_line (line.Write slot host number) = true
is_host_line (line.Read slot host from number payload) = true
is_host_line _ = false

-- what the lines of hosts in a slot begin with
abbrev pub host_front : ℕ → List ℕ
host_front slot = codes "slot " ++ decimal slot ++ codes " host "

-- behind the nodes' lines of a slot
pub record IsHostPlace (due : Due) (lines : Lines) : Type 0 where
  pub goes_on : GoesOn due lines
  pub host : IsTrue (is_host_due due)

-- Slots.

-- nodes of a cluster, of which there are at most so many
abbrev pub are_few : Head → Bool
are_few head = nat_lt 0 head.nodes && nat_le head.nodes most_nodes

-- before the first node's line of a slot or a line of a host
abbrev pub is_due_between : Due → Bool
is_due_between (due.Node head slot k) = (k == 0) && are_few head
is_due_between (due.Host head slot has_read) = are_few head
is_due_between _ = false

pub record IsSlotPlace (due : Due) (lines : Lines) : Type 0 where
  pub goes_on : GoesOn due lines
  pub between : IsTrue (is_due_between due)

-- behind so many nodes' lines of a slot
abbrev pub is_due_in_slot : ℕ → Due → Bool
is_due_in_slot count (due.Node head slot k) = (k == count) && nat_lt k head.nodes && are_few head
is_due_in_slot count (due.Host head slot has_read) = nat_le count most_nodes && are_few head
is_due_in_slot count _ = false

pub record IsInSlot (count : ℕ) (due : Due) (lines : Lines) : Type 0 where
  pub goes_on : GoesOn due lines
  pub in_slot : IsTrue (is_due_in_slot count due)

-- a text begins with the line of a host, and behind it these are due and left
pub record IsHostStep (due : Due) (text : List ℕ) (then : Due) (rest : List ℕ) : Type 0 where
  pub slots : (slots_from (lines_of text)).slots ≡ (slots_from (lines_of rest)).slots
  pub place : IsSlotPlace due (lines_of text) → IsSlotPlace then (lines_of rest)
  pub shorter : length rest < length text

-- the lines of so many nodes were read, and lines of hosts may follow
pub record IsShown (count : ℕ) (due : Due) (lines : Lines) : Type 0 where
  pub few : count ≤ most_nodes
  pub host : IsTrue (is_host_due due)
  pub place : IsSlotPlace due lines

abbrev pub is_node_due : Due → Bool
is_node_due (due.Node head slot k) = true
is_node_due _ = false

-- which node's line is due, and what is due behind it
abbrev pub node_due : Due → ℕ
node_due (due.Node head slot k) = k
node_due _ = 0

abbrev pub behind_node : Due → Due
behind_node (due.Node head slot k) = next_node head slot k
behind_node (due.Host head slot has_read) = next_node head (slot + 1) 0
behind_node d = d

-- a text begins with the line of a node, and behind it these are due and left
pub record IsNodeStep (due : Due) (text : List ℕ) (node : NodeShown) (then : Due) (rest : List ℕ) : Type 0 where
  pub slots : slots_from (lines_of text) ≡ with_node_line (node_due due) node (slots_from (lines_of rest))
  pub goes_on : GoesOn due (lines_of text) → GoesOn then (lines_of rest)
  pub next : then ≡ behind_node due
  pub shorter : length rest < length text
