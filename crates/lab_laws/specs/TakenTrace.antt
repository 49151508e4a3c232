-- The trace that the text of a run is taken for, as a value.
use Rattle.std.specs.Prelude.{ℕ, ◌+◌, ◌==◌, Bool, true, false, List, [], ◌∷◌, ◌++◌, map, length, get_or, count_by}
use Rattle.std.specs.Prelude.{Option, Some, None}
use Rattle.ttp_base.specs.NodeSet.{below}
use Rattle.ttp_world.specs.declared.keep.Back.{Back}
use Rattle.ttp_world.specs.declared.medl.Medl.{Medl}
use Rattle.ttp_world.specs.declared.node.Entry.{Entry}
use Rattle.ttp_world.specs.declared.node.NodeState.{NodeState}
use Rattle.ttp_world.specs.declared.script.Event.{Event}
use Rattle.ttp_world.specs.declared.script.Event.TheVariants as event
use Rattle.ttp_world.specs.declared.script.Script.{Script}
use Rattle.ttp_world.specs.Diary.{History}
use Rattle.ttp_world.specs.Hypothesis.{keeps}
use Rattle.ttp_world.specs.Legal.{ReadMessage, read_messages}
use Rattle.ttp_world.specs.Messages.{ring_messages}
use Rattle.ttp_world.specs.Outgoing.{messages_before}
use Rattle.ttp_world.specs.Past.{state_of}
use Rattle.ttp_world.specs.Returning.{has_arm, returns}
use Rattle.ttp_world.specs.Script.{HostWrite, writes_in, reads_in}
use Rattle.ttp_world.specs.Trace.{peer_of, message_shown}
use Rattle.ttp_world.specs.World.{SlotNumbers, Numbers, world, node_past}
use Rattle.line_text.specs.HostLines.{AreBytes}
use Rattle.line_reader.specs.WorldLines.{word_of, bytes_of_message}
use Rattle.whole_trace.specs.declared.shown.Head.{Head}
use Rattle.whole_trace.specs.declared.shown.HostLine.{HostLine}
use Rattle.whole_trace.specs.declared.shown.HostLine.TheVariants as host
use Rattle.whole_trace.specs.declared.shown.NodeShown.{NodeShown}
use Rattle.whole_trace.specs.Whole.{SlotLines, WholeTrace}

-- what an event writes, if it is a host's write, is bytes
abbrev pub IsOfBytes : Event → Type 0
IsOfBytes (event.Write node slot payload) = AreBytes payload
IsOfBytes _ = Unit {0}

-- what the first line says
abbrev pub head_of_run : Medl → Script → Head
head_of_run list script = record {
  version = list.version;
  nodes = length list.slots;
  rounds = list.rounds;
  slots = script.slots;
  schedule = list.schedule;
}

-- what the line of node k says, by its state after the slot and the message that its line names
abbrev pub state_listed : ℕ → NodeState → Option ℕ → NodeShown
state_listed k state message = record {
  word = word_of state.entry;
  peer = peer_of k state.entry;
  message = message;
  members = state.members;
  accepted = state.accepted;
  rejected = state.rejected;
  ack = state.ack;
  offset = state.offset;
}

-- what is listed of a node in the slot of a row, with the message that its line shows
abbrev pub node_listed : Medl → Script → List Entry → History → ℕ → NodeShown
node_listed list script row before k =
    let state = state_of (node_past list script (row ∷ before) k) in
    state_listed k state (message_shown list script row before k state.entry)

-- what hosts wrote in a slot, where they wrote some messages earlier in it
abbrev pub writes_listed : Medl → Script → ℕ → List HostWrite → List HostWrite → List HostLine
writes_listed list script slot earlier [] = []
writes_listed list script slot earlier (w ∷ ws) =
    host.Write w.host
    (length (messages_before list script w.host slot) + count_by (λ e. e.host == w.host) earlier)
    ∷ writes_listed list script slot (w ∷ earlier) ws

-- what a host read, by the history up to that slot
abbrev pub read_listed : Medl → Script → History → ReadMessage → HostLine
read_listed list script after r =
    host.Read r.read.host r.read.source r.number
    (bytes_of_message r.read.source (get_or (ring_messages list script after r.read.host r.read.source) r.number []))

-- the slot of a row
abbrev pub slot_listed : Medl → Script → List Entry → History → SlotNumbers → SlotLines
slot_listed list script row before new = record {
  nodes = map (node_listed list script row before) (below (length list.slots));
  hosts =
      writes_listed list script (length before) [] (writes_in script (length before))
      ++ map (read_listed list script (row ∷ before))
      (read_messages (reads_in script (length before)) new.read);
}

-- the oldest slot first
abbrev pub slots_listed : Medl → Script → History → Numbers → List SlotLines
slots_listed list script [] numbers = []
slots_listed list script (row ∷ history) [] = []
slots_listed list script (row ∷ history) (new ∷ numbers) =
    slots_listed list script history numbers ++ slot_listed list script row history new ∷ []

-- whether each armed node is guaranteed its place, where a node is armed
abbrev pub back_if : Medl → Script → Bool → Option Back
back_if list script true = Some (returns list script)
back_if list script false = None

-- the whole
abbrev pub trace_of_run : Medl → Script → Numbers → WholeTrace
trace_of_run list script numbers = record {
  head = head_of_run list script;
  slots = slots_listed list script (world list script numbers) numbers;
  keep = keeps list script;
  back = back_if list script (has_arm script);
}
