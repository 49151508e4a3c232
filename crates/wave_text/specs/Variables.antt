-- The variables of a waveform: their codes, names and types, and the lines that declare them.
use Rattle.std.specs.Prelude.{ℕ, ◌+◌, ◌-◌, ◌*◌, ◌==◌, ◌<◌, List, [], ◌∷◌, ◌++◌}
use Rattle.std.specs.Prelude.{codes, decimal, filter, flat_map, map}
use Rattle.ttp_base.specs.NodeSet.{most_nodes}
use Rattle.ttp_base.specs.Text.{Lines, newline, lines_below}
use Rattle.ttp_world.specs.declared.script.Source.TheVariants as source
use Rattle.ttp_world.specs.Trace.{source_word}
use Rattle.shown_slot.specs.declared.host.Port.{Port}
use Rattle.shown_slot.specs.declared.host.What.{What}
use Rattle.shown_slot.specs.declared.host.What.TheVariants as what
use Rattle.wave_text.specs.declared.variable.ClusterVariable.{ClusterVariable}
use Rattle.wave_text.specs.declared.variable.ClusterVariable.TheVariants as of_cluster
use Rattle.wave_text.specs.declared.variable.NodeVariable.{NodeVariable}
use Rattle.wave_text.specs.declared.variable.NodeVariable.TheVariants as of_node
use Rattle.wave_text.specs.declared.variable.PortVariable.{PortVariable}
use Rattle.wave_text.specs.declared.variable.PortVariable.TheVariants as of_port

-- The variables of each scope, in the order in which they are declared.

abbrev pub cluster_variables : List ClusterVariable
cluster_variables =
    of_cluster.Agree ∷ of_cluster.Sender ∷ of_cluster.Active ∷ of_cluster.Leaving ∷ of_cluster.Spread ∷ []

abbrev pub node_variables : List NodeVariable
node_variables =
    of_node.Sends ∷ of_node.Phase ∷ of_node.Word ∷ of_node.Peer ∷ of_node.Message ∷ of_node.Members
    ∷ of_node.Accepted ∷ of_node.Rejected ∷ of_node.Ack ∷ of_node.Clock ∷ []

-- what a host reads has bytes
abbrev pub data_variables : What → List PortVariable
data_variables what.Write = []
data_variables (what.Read from) = of_port.Data ∷ []

-- what a host writes or reads has a number, and what it reads bytes besides
abbrev pub port_variables : What → List PortVariable
port_variables does = of_port.Number ∷ data_variables does

-- Codes.

abbrev pub cluster_letter : ClusterVariable → List ℕ
cluster_letter of_cluster.Agree = codes "a"
cluster_letter of_cluster.Sender = codes "b"
cluster_letter of_cluster.Active = codes "c"
cluster_letter of_cluster.Leaving = codes "d"
cluster_letter of_cluster.Spread = codes "e"

abbrev pub node_letter : NodeVariable → List ℕ
node_letter of_node.Sends = codes "a"
node_letter of_node.Phase = codes "b"
node_letter of_node.Word = codes "c"
node_letter of_node.Peer = codes "d"
node_letter of_node.Message = codes "e"
node_letter of_node.Members = codes "f"
node_letter of_node.Accepted = codes "g"
node_letter of_node.Rejected = codes "h"
node_letter of_node.Ack = codes "i"
node_letter of_node.Clock = codes "j"

abbrev pub port_letter : What → PortVariable → List ℕ
port_letter what.Write v = codes "k"
port_letter (what.Read from) of_port.Number = codes "l"
port_letter (what.Read from) of_port.Data = codes "m"

-- the letter of a node, `A` for node 0
abbrev pub letter_of_node : ℕ → List ℕ
letter_of_node k = (65 + k) ∷ []

abbrev pub source_letter : What → List ℕ
source_letter what.Write = []
source_letter (what.Read source.Status) = codes "z"
source_letter (what.Read (source.Node p)) = letter_of_node p

abbrev pub node_code : NodeVariable → ℕ → List ℕ
node_code v k = node_letter v ++ letter_of_node k

abbrev pub port_code : Port → PortVariable → List ℕ
port_code port v = port_letter port.what v ++ letter_of_node port.host ++ source_letter port.what

-- a host and a source have letters where they are nodes below 24
abbrev pub HasSourceLetter : What → Type 0
HasSourceLetter what.Write = Unit {0}
HasSourceLetter (what.Read source.Status) = Unit {0}
HasSourceLetter (what.Read (source.Node p)) = p < most_nodes

abbrev pub HasLetters : Port → Type 0
HasLetters port = (port.host < most_nodes) × HasSourceLetter port.what

-- Names.

abbrev pub cluster_name : ClusterVariable → List ℕ
cluster_name of_cluster.Agree = codes "agree"
cluster_name of_cluster.Sender = codes "sender"
cluster_name of_cluster.Active = codes "active"
cluster_name of_cluster.Leaving = codes "leaving"
cluster_name of_cluster.Spread = codes "spread"

abbrev pub node_name : NodeVariable → List ℕ
node_name of_node.Sends = codes "sends"
node_name of_node.Phase = codes "phase"
node_name of_node.Word = codes "word"
node_name of_node.Peer = codes "peer"
node_name of_node.Message = codes "msg"
node_name of_node.Members = codes "mem"
node_name of_node.Accepted = codes "acc"
node_name of_node.Rejected = codes "rej"
node_name of_node.Ack = codes "ack"
node_name of_node.Clock = codes "clock"

abbrev pub port_name : What → PortVariable → List ℕ
port_name what.Write v = codes "write"
port_name (what.Read from) of_port.Number = codes "read_" ++ source_word from
port_name (what.Read from) of_port.Data = codes "data_" ++ source_word from

-- Types.

abbrev pub wire : ℕ → List ℕ
wire size = codes "wire " ++ decimal size

abbrev pub integer : List ℕ
integer = codes "integer 32"

abbrev pub long_integer : List ℕ
long_integer = codes "integer 64"

abbrev pub text : List ℕ
text = codes "string 1"

abbrev pub real : List ℕ
real = codes "real 64"

abbrev pub cluster_type : ℕ → ClusterVariable → List ℕ
cluster_type width of_cluster.Agree = wire 1
cluster_type width of_cluster.Sender = integer
cluster_type width of_cluster.Active = wire width
cluster_type width of_cluster.Leaving = wire width
cluster_type width of_cluster.Spread = long_integer

abbrev pub node_type : ℕ → NodeVariable → List ℕ
node_type width of_node.Sends = wire 1
node_type width of_node.Members = wire width
node_type width of_node.Phase = text
node_type width of_node.Word = text
node_type width of_node.Ack = text
node_type width of_node.Clock = real
node_type width _ = integer

abbrev pub port_type : Port → PortVariable → List ℕ
port_type port of_port.Number = integer
port_type port of_port.Data = wire (8 * port.size)

-- what stands behind the name of a wire of so many bits
abbrev pub range_text : ℕ → List ℕ
range_text size = codes " [" ++ decimal (size - 1) ++ codes ":0]"

abbrev pub cluster_range : ℕ → ClusterVariable → List ℕ
cluster_range width of_cluster.Active = range_text width
cluster_range width of_cluster.Leaving = range_text width
cluster_range width _ = []

abbrev pub node_range : ℕ → NodeVariable → List ℕ
node_range width of_node.Members = range_text width
node_range width _ = []

abbrev pub port_range : Port → PortVariable → List ℕ
port_range port of_port.Number = []
port_range port of_port.Data = range_text (8 * port.size)

-- Declarations.

abbrev pub end_keyword : List ℕ
end_keyword = codes " $end" ++ newline

abbrev pub declaration : List ℕ → List ℕ → List ℕ → List ℕ → List ℕ
declaration type code name range =
    codes "$var " ++ type ++ codes " " ++ code ++ codes " " ++ name ++ range ++ end_keyword

abbrev pub cluster_declaration : ℕ → ClusterVariable → List ℕ
cluster_declaration width v =
    declaration (cluster_type width v) (cluster_letter v) (cluster_name v) (cluster_range width v)

abbrev pub node_declaration : ℕ → ℕ → NodeVariable → List ℕ
node_declaration width k v = declaration (node_type width v) (node_code v k) (node_name v) (node_range width v)

abbrev pub port_declaration : Port → PortVariable → List ℕ
port_declaration port v = declaration (port_type port v) (port_code port v) (port_name port.what v) (port_range port v)

abbrev pub scope_line : List ℕ → List ℕ
scope_line name = codes "$scope module " ++ name ++ end_keyword

abbrev pub upscope_line : List ℕ
upscope_line = codes "$upscope" ++ end_keyword

abbrev pub port_declarations : Port → Lines
port_declarations port = map (port_declaration port) (port_variables port.what)

-- the ports of host k
abbrev pub ports_at : List Port → ℕ → List Port
ports_at ports k = filter (λ port. port.host == k) ports

-- the scope of a host that has ports
abbrev pub host_scope : List Port → Lines
host_scope [] = []
host_scope (port ∷ ports) =
    scope_line (codes "host") ∷ flat_map port_declarations (port ∷ ports) ++ upscope_line ∷ []

abbrev pub node_scope : ℕ → List Port → ℕ → Lines
node_scope width ports k =
    scope_line (codes "node" ++ decimal k) ∷ map (node_declaration width k) node_variables
    ++ host_scope (ports_at ports k) ++ upscope_line ∷ []

-- the declarations of a cluster of so many nodes
abbrev pub declarations : ℕ → ℕ → List Port → Lines
declarations width n ports =
    scope_line (codes "cluster") ∷ map (cluster_declaration width) cluster_variables
    ++ lines_below (node_scope width ports) n ++ upscope_line ∷ []
