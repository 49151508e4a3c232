-- The cells and marks of a picture: what stands in each of them, and the element that shows it.
use Rattle.std.specs.Prelude.{ℕ, ◌+◌, ◌*◌, ◌/◌, ◌==◌, nat_le, nat_lt, Bool, ◌&&◌, not, List, [], ◌∷◌, ◌++◌, map}
use Rattle.std.specs.Prelude.{length, filter, flat_map, Option, Some, None, is_some, codes, decimal, if◌then◌else◌}
use Rattle.std.specs.List.{list_any}
use Rattle.ttp_base.specs.NodeSet.{below, set_bits}
use Rattle.ttp_base.specs.Text.{hex, newline}
use Rattle.ttp_world.specs.declared.script.Source.TheVariants as source
use Rattle.ttp_world.specs.Medl.{member_bytes}
use Rattle.line_reader.specs.TraceLines.{word_text}
use Rattle.whole_trace.specs.declared.shown.Head.{Head}
use Rattle.whole_trace.specs.declared.shown.HostLine.{HostLine}
use Rattle.whole_trace.specs.declared.shown.HostLine.TheVariants as line
use Rattle.whole_trace.specs.declared.shown.NodeShown.{NodeShown}
use Rattle.whole_trace.specs.Whole.{SlotLines}
use Rattle.shown_slot.specs.declared.node.ClockRange.{ClockRange}
use Rattle.shown_slot.specs.Nodes.{sends, is_holder, clock_range, spread_in, node_apart}
use Rattle.shown_slot.specs.Trace.{node_at, node_text, host_text}
use Rattle.picture_text.specs.Tables.{letter}
use Rattle.ttp_world.specs.Acknowledgement.{is_doubt}

-- Elements.

abbrev pub attribute : List ℕ → List ℕ → List ℕ
attribute name value = codes " " ++ name ++ codes "=\"" ++ value ++ codes "\""

abbrev pub place_attributes : ℕ → ℕ → List ℕ
place_attributes x y = attribute (codes "x") (decimal x) ++ attribute (codes "y") (decimal y)

abbrev pub title_element : List ℕ → List ℕ
title_element title = codes "<title>" ++ title ++ codes "</title>"

-- a cell of this class, whose title a browser shows when the mouse is over it
abbrev pub cell : List ℕ → ℕ → ℕ → List ℕ → List ℕ → List ℕ
cell class x y title shown =
    codes "<g class=\"" ++ class ++ codes "\"><title>" ++ title ++ codes "</title><rect" ++ place_attributes x y
    ++ codes " width=\"19\" height=\"19\"/><text" ++ place_attributes (x + 9) (y + 14) ++ codes ">" ++ shown
    ++ codes "</text></g>\n"

-- a mark of this class and shape
abbrev pub mark : List ℕ → List ℕ → ℕ → ℕ → List ℕ → List ℕ
mark class shape x y title =
    codes "<path class=\"" ++ class ++ codes "\" d=\"M" ++ decimal x ++ codes " " ++ decimal y ++ shape
    ++ codes "\"><title>" ++ title ++ codes "</title></path>\n"

abbrev pub write_shape : List ℕ
write_shape = codes "v-10l10 10z"

abbrev pub read_shape : List ℕ
read_shape = codes "h-10l10-10z"

abbrev pub status_shape : List ℕ
status_shape = codes "v10l-10-10z"

-- Members.

-- each of these numbers once, where it comes first
abbrev pub distinct : List ℕ → List ℕ
distinct [] = []
distinct (x ∷ xs) = x ∷ filter (λ y. not (y == x)) (distinct xs)

-- with one more, unless it is there
abbrev pub noted : List ℕ → ℕ → List ℕ
noted words members = if list_any (λ word. word == members) words then words else words ++ members ∷ []

-- the memberships that holders hold, that of the lowest one first
abbrev pub shown_memberships : List NodeShown → List ℕ
shown_memberships nodes = distinct (map (λ node. set_bits node.members) (filter is_holder nodes))

-- the node holds these members, and they count
abbrev pub holds : ℕ → NodeShown → Bool
holds members node = is_holder node && (set_bits node.members == members)

-- the nodes of a slot that do
abbrev pub holders_of : ℕ → SlotLines → List ℕ
holders_of members slot = filter (λ k. holds members (node_at slot k)) (below (length slot.nodes))

-- of two memberships the one that more nodes hold, or else the first
abbrev pub more_held : SlotLines → ℕ → Option ℕ → ℕ
more_held slot members None = members
more_held slot members (Some other) =
    if nat_le (length (holders_of other slot)) (length (holders_of members slot)) then members else other

abbrev pub most_held : SlotLines → List ℕ → Option ℕ
most_held slot [] = None
most_held slot (members ∷ others) = Some (more_held slot members (most_held slot others))

-- the members that most holders of a slot hold
abbrev pub held_by_most : SlotLines → Option ℕ
held_by_most slot = most_held slot (shown_memberships slot.nodes)

-- Nodes.

abbrev pub doubt_class : NodeShown → List ℕ
doubt_class node = if is_doubt node.ack then codes " doubt" else []

-- a holder of other members than most
abbrev pub other_class : NodeShown → Option ℕ → List ℕ
other_class node None = []
other_class node (Some members) =
    if is_holder node && not (set_bits node.members == members) then codes " other" else []

abbrev pub data_class : NodeShown → List ℕ
data_class node = if is_some node.message then codes " data" else []

-- the sender of a frame that is refused
abbrev pub refused_class : NodeShown → Bool → List ℕ
refused_class node refused = if sends node.word && refused then codes " refused" else []

abbrev pub node_class : NodeShown → Option ℕ → Bool → List ℕ
node_class node most refused =
    word_text node.word ++ doubt_class node ++ other_class node most ++ data_class node ++ refused_class node refused

-- the cell of node k, where most holders hold these members, and the frame of the slot is refused or not
abbrev pub node_cell : Head → ℕ → ℕ → NodeShown → Option ℕ → Bool → ℕ → ℕ → List ℕ
node_cell head t k node most refused x y =
    cell (node_class node most refused) x y (node_text head t k node) (letter node.word)

-- What all nodes hold.

abbrev pub head_member_digits : Head → ℕ
head_member_digits head = 2 * member_bytes (head.version == 2)

abbrev pub each_node : List ℕ → List ℕ
each_node nodes = flat_map (λ k. codes " " ++ decimal k) nodes

abbrev pub membership_text : Head → SlotLines → ℕ → List ℕ
membership_text head slot members =
    codes " " ++ hex (head_member_digits head) members ++ codes " of" ++ each_node (holders_of members slot)

abbrev pub members_title : Head → ℕ → SlotLines → List ℕ
members_title head t slot =
    codes "slot " ++ decimal t ++ codes " members" ++ flat_map (membership_text head slot)
    (shown_memberships slot.nodes)

-- how many nodes a number of members stands for
abbrev pub count_of : List NodeShown → List ℕ
count_of [] = codes "0"
count_of (node ∷ nodes) = if is_holder node then decimal (length node.members) else count_of nodes

abbrev pub members_cell_of : List ℕ → List NodeShown → ℕ → ℕ → ℕ → List ℕ → List ℕ
members_cell_of [] nodes t x y title =
    cell (codes "none") x y (codes "slot " ++ decimal t ++ codes " members -") (codes "-")
members_cell_of (one ∷ []) nodes t x y title = cell (codes "agree") x y title (count_of nodes)
members_cell_of (one ∷ other ∷ more) nodes t x y title = cell (codes "differ") x y title (codes "!")

abbrev pub members_cell : Head → ℕ → SlotLines → ℕ → ℕ → List ℕ
members_cell head t slot x y =
    members_cell_of (shown_memberships slot.nodes) slot.nodes t x y (members_title head t slot)

-- Clocks.

abbrev pub apart_text : Option ClockRange → List ℕ
apart_text None = codes "-"
apart_text (Some range) = decimal (spread_in range)

-- a number in at most four characters: whole thousands from 10,000 on, and no more than that from 1,000,000 on
abbrev pub short_number : ℕ → List ℕ
short_number number =
    if nat_lt number 10000
    then decimal number
    else if nat_lt number 1000000 then decimal (number / 1000) ++ codes "k" else codes "1M+"

abbrev pub apart_shown : Option ClockRange → List ℕ
apart_shown None = codes "-"
apart_shown (Some range) = short_number (spread_in range)

abbrev pub clocks_cell : ℕ → SlotLines → ℕ → ℕ → List ℕ
clocks_cell t slot x y =
    let range = clock_range slot.nodes in
    cell (codes "none") x y (codes "slot " ++ decimal t ++ codes " clocks apart " ++ apart_text range)
    (apart_shown range)

-- the node whose clock is far from most
abbrev pub far_text : Option ℕ → List ℕ
far_text None = codes "-"
far_text (Some k) = codes "node " ++ decimal k

abbrev pub far_shown : Option ℕ → List ℕ
far_shown None = codes "-"
far_shown (Some k) = decimal k

abbrev pub far_cell : ℕ → SlotLines → ℕ → ℕ → List ℕ
far_cell t slot x y =
    let far = node_apart slot.nodes in
    cell (codes "apart") x y
    (codes "slot " ++ decimal t ++ codes " clock apart from most " ++ far_text far) (far_shown far)

-- Hosts.

-- whose line it is
abbrev pub host_of : HostLine → ℕ
host_of (line.Write host number) = host
host_of (line.Read host source number payload) = host

-- the mark of a host's line, in a corner of the cell of its node
abbrev pub host_mark : ℕ → HostLine → ℕ → ℕ → List ℕ
host_mark t (line.Write host number) x y =
    mark (codes "write") write_shape x (y + 19) (host_text t (line.Write host number))
host_mark t (line.Read host source.Status number payload) x y =
    mark (codes "status") status_shape (x + 19) y (host_text t (line.Read host source.Status number payload))
host_mark t (line.Read host (source.Node p) number payload) x y =
    mark (codes "read") read_shape (x + 19) (y + 19) (host_text t (line.Read host (source.Node p) number payload))
