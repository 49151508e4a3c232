-- What both views say of a whole trace.
use Rattle.std.specs.Prelude.{ℕ, pos, List, [], get_or, flat_map, Option, None, option_map, if◌then◌else◌, ◌==◌}
use Rattle.ttp_world.specs.declared.node.Ack.TheVariants as ack
use Rattle.line_reader.specs.declared.trace_line.TraceLine.TheVariants as line
use Rattle.line_reader.specs.declared.trace_line.Word.TheVariants as word
use Rattle.line_reader.specs.TraceLines.{text_of, keep_text, back_text}
use Rattle.whole_trace.specs.declared.shown.Head.{Head}
use Rattle.whole_trace.specs.declared.shown.HostLine.{HostLine}
use Rattle.whole_trace.specs.declared.shown.HostLine.TheVariants as by_host
use Rattle.whole_trace.specs.declared.shown.NodeShown.{NodeShown}
use Rattle.whole_trace.specs.Whole.{SlotLines, WholeTrace}
use Rattle.shown_slot.specs.declared.host.Port.{Port}
use Rattle.shown_slot.specs.Ports.{ports_of}

-- what stands for a node that a slot doesn't have
abbrev pub no_shown_node : NodeShown
no_shown_node = record {
  word = word.Off;
  peer = None;
  message = None;
  members = [];
  accepted = 0;
  rejected = 0;
  ack = ack.Closed;
  offset = pos 0;
}

abbrev pub node_at : SlotLines → ℕ → NodeShown
node_at slot k = get_or slot.nodes k no_shown_node

-- the lines beside those of its slots, without their line feeds
abbrev pub header_text : Head → List ℕ
header_text head = text_of (line.Header head.version head.nodes head.rounds head.slots head.schedule)

abbrev pub first_text : WholeTrace → List ℕ
first_text trace = header_text trace.head

abbrev pub keeps_text : WholeTrace → List ℕ
keeps_text trace = keep_text trace.keep

abbrev pub returns_text : WholeTrace → Option (List ℕ)
returns_text trace = option_map back_text trace.back

-- for how many nodes its members have room
abbrev pub member_room : WholeTrace → ℕ
member_room trace = if trace.head.version == 2 then 24 else 16

-- what hosts do anywhere in it
abbrev pub trace_ports : WholeTrace → List Port
trace_ports trace = ports_of trace.head.nodes (flat_map (λ slot. slot.hosts) trace.slots)

-- the line of node k after slot t, and that of a host in it, without their line feeds
abbrev pub node_text : Head → ℕ → ℕ → NodeShown → List ℕ
node_text head t k node =
    text_of (line.Node t k node.word node.peer node.message (head.version == 2) node.members node.accepted node.rejected
    node.ack node.offset)

abbrev pub host_text : ℕ → HostLine → List ℕ
host_text t (by_host.Write host number) = text_of (line.Write t host number)
host_text t (by_host.Read host source number payload) = text_of (line.Read t host source number payload)
