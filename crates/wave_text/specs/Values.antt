-- What a waveform says of a variable: the text of its value after a slot.
use Rattle.std.specs.Prelude.{ℕ, zero, suc, ◌+◌, ◌/◌, ◌%◌, nat_lt, Bool, true, false, List, [], ◌∷◌, ◌++◌}
use Rattle.std.specs.Prelude.{ℤ, Option, Some, None, codes, if◌then◌else◌}
use Rattle.std.specs.Fmt.{signed_decimal}
use Rattle.std.specs.List.{flat_map}
use Rattle.ttp_base.specs.NodeSet.{set_bits}
use Rattle.ttp_world.specs.declared.node.Ack.{Ack}
use Rattle.ttp_world.specs.Trace.{ack_word}
use Rattle.line_reader.specs.declared.trace_line.Word.{Word}
use Rattle.line_reader.specs.declared.trace_line.Word.TheVariants as word
use Rattle.line_reader.specs.TraceLines.{word_text}
use Rattle.shown_slot.specs.declared.host.Message.{Message}
use Rattle.shown_slot.specs.declared.node.ClockRange.{ClockRange}
use Rattle.whole_trace.specs.declared.shown.NodeShown.{NodeShown}
use Rattle.shown_slot.specs.declared.node.Sender.{Sender}
use Rattle.shown_slot.specs.declared.node.Sender.TheVariants as sent_by
use Rattle.shown_slot.specs.Nodes.{is_active_word, is_leaving_word, sends, agreement, sender_among, bits_where}
use Rattle.shown_slot.specs.Nodes.{clock_range, spread_in}
use Rattle.wave_text.specs.declared.variable.ClusterVariable.{ClusterVariable}
use Rattle.wave_text.specs.declared.variable.ClusterVariable.TheVariants as of_cluster
use Rattle.wave_text.specs.declared.variable.NodeVariable.{NodeVariable}
use Rattle.wave_text.specs.declared.variable.NodeVariable.TheVariants as of_node
use Rattle.wave_text.specs.declared.variable.PortVariable.{PortVariable}
use Rattle.wave_text.specs.declared.variable.PortVariable.TheVariants as of_port

-- Numbers.

-- the lowest binary digits of a number, as many as are asked for, the most significant first
unfoldable pub binary : ℕ → ℕ → List ℕ
binary zero v = []
binary (suc digits) v = binary digits (v / 2) ++ (48 + v % 2) ∷ []

-- the binary digits of a number that needs at most so many, without leading zeros
unfoldable pub binary_number : ℕ → ℕ → List ℕ
binary_number zero v = []
binary_number (suc more) v =
    if nat_lt v 2 then (48 + v) ∷ [] else (binary_number more (v / 2) ++ (48 + v % 2) ∷ [])

abbrev pub most_binary_digits : ℕ
most_binary_digits = 64

abbrev pub number_text : ℕ → List ℕ
number_text v = codes "b" ++ binary_number most_binary_digits v

-- a wire of so many bits
abbrev pub wires_text : ℕ → ℕ → List ℕ
wires_text width v = codes "b" ++ binary width v

-- what is not there, and what is not known
abbrev pub nothing_text : List ℕ
nothing_text = codes "bz"

abbrev pub unknown_value : List ℕ
unknown_value = codes "bx"

abbrev pub number_or_nothing : Option ℕ → List ℕ
number_or_nothing None = nothing_text
number_or_nothing (Some v) = number_text v

abbrev pub bit_text : Bool → List ℕ
bit_text false = codes "0"
bit_text true = codes "1"

-- The cluster.

abbrev pub agreement_text : Option Bool → List ℕ
agreement_text None = codes "z"
agreement_text (Some same) = bit_text same

abbrev pub sender_text : Sender → List ℕ
sender_text sent_by.Nobody = nothing_text
sender_text (sent_by.Node k) = number_text k
sender_text sent_by.Several = unknown_value

abbrev pub spread_text : Option ClockRange → List ℕ
spread_text None = nothing_text
spread_text (Some range) = number_text (spread_in range)

-- the value of a variable of the cluster, whose sets of nodes are wires of so many bits
abbrev pub cluster_value : ℕ → ClusterVariable → List NodeShown → List ℕ
cluster_value width of_cluster.Agree nodes = agreement_text (agreement nodes)
cluster_value width of_cluster.Sender nodes = sender_text (sender_among 0 nodes)
cluster_value width of_cluster.Active nodes = wires_text width (bits_where is_active_word nodes)
cluster_value width of_cluster.Leaving nodes = wires_text width (bits_where is_leaving_word nodes)
cluster_value width of_cluster.Spread nodes = spread_text (clock_range nodes)

-- A node.

abbrev pub phase_text : Word → List ℕ
phase_text word.Off = codes "off"
phase_text word.Wait = codes "listening"
phase_text word.Retry = codes "listening"
phase_text w = if is_active_word w then codes "active" else codes "left"

-- a node that is off is known to hold nothing
abbrev pub unless_off : Word → List ℕ → List ℕ
unless_off word.Off text = unknown_value
unless_off _ text = text

-- what an active node holds
abbrev pub held_text : Word → List ℕ → List ℕ
held_text w text = unless_off w (if is_active_word w then text else nothing_text)

abbrev pub node_ack_text : Ack → List ℕ
node_ack_text a = codes "s" ++ ack_word a

abbrev pub clock_text : ℤ → List ℕ
clock_text clock = codes "r" ++ signed_decimal clock

abbrev pub node_value : ℕ → NodeVariable → NodeShown → List ℕ
node_value width of_node.Sends node = bit_text (sends node.word)
node_value width of_node.Phase node = codes "s" ++ phase_text node.word
node_value width of_node.Word node = codes "s" ++ word_text node.word
node_value width of_node.Peer node = unless_off node.word (number_or_nothing node.peer)
node_value width of_node.Message node = unless_off node.word (number_or_nothing node.message)
node_value width of_node.Members node = held_text node.word (wires_text width (set_bits node.members))
node_value width of_node.Accepted node = held_text node.word (number_text node.accepted)
node_value width of_node.Rejected node = held_text node.word (number_text node.rejected)
node_value width of_node.Ack node = node_ack_text node.ack
node_value width of_node.Clock node = clock_text node.offset

-- A host.

-- the number of a message, and its bytes
abbrev pub message_number : Option Message → List ℕ
message_number None = nothing_text
message_number (Some message) = number_text message.number

abbrev pub bytes_text : List ℕ → List ℕ
bytes_text bytes = codes "b" ++ flat_map (binary 8) bytes

abbrev pub message_bytes : Option Message → List ℕ
message_bytes None = nothing_text
message_bytes (Some message) = bytes_text message.payload

abbrev pub port_value : PortVariable → Option Message → List ℕ
port_value of_port.Number message = message_number message
port_value of_port.Data message = message_bytes message
