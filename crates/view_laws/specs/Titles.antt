-- The titles of a picture, as its text has them, and the lines of a trace that they are.
use Rattle.std.specs.Prelude.{ℕ, ◌-◌, ◌==◌, Bool, true, false, ◌&&◌, ◌||◌, List}
use Rattle.std.specs.Prelude.{[], ◌∷◌, ◌++◌, map, flat_map, length, take, drop}
use Rattle.std.specs.Prelude.{Option, option_to_list, codes, decimal, if◌then◌else◌}
use Rattle.ttp_base.specs.NodeSet.{below}
use Rattle.ttp_base.specs.Text.{Lines, lines_of}
use Rattle.line_reader.specs.TraceLines.{word_text}
use Rattle.whole_trace.specs.declared.shown.Head.{Head}
use Rattle.whole_trace.specs.Whole.{SlotLines, WholeTrace}
use Rattle.shown_slot.specs.Nodes.{clock_range, node_apart}
use Rattle.shown_slot.specs.Trace.{node_at, first_text, keeps_text, returns_text, node_text, host_text}
use Rattle.picture_text.specs.declared.window.Span.{Span}
use Rattle.picture_text.specs.Cells.{shown_memberships, members_title, apart_text, far_text}
use Rattle.picture_text.specs.Picture.{slot_at, shown_slots}
use Rattle.picture_text.specs.Tables.{words}
use Rattle.picture_text.specs.Window.{span_shown}

-- Titles in a text.

-- a text begins with these bytes
abbrev pub begins_with : List ℕ → List ℕ → Bool
begins_with [] text = true
begins_with (b ∷ bytes) [] = false
begins_with (b ∷ bytes) (c ∷ text) = (b == c) && begins_with bytes text

-- a text up to the first place where these bytes stand, or all of it
abbrev pub text_before : List ℕ → List ℕ → List ℕ
text_before bytes [] = []
text_before bytes (c ∷ text) = if begins_with bytes (c ∷ text) then [] else c ∷ text_before bytes text

-- at each place of a text where `<title>` stands: what stands between it and the next `</title>`
abbrev pub titles_in : List ℕ → Lines
titles_in [] = []
titles_in (c ∷ text) =
    if begins_with (codes "<title>") (c ∷ text)
    then text_before (codes "</title>") (drop 6 text) ∷ titles_in text
    else titles_in text

-- the titles of lines, one line after another
abbrev pub titles : Lines → Lines
titles lines = flat_map titles_in lines

-- `<` or `&`, which are not read as themselves in the text of an element
abbrev pub is_markup : ℕ → Bool
is_markup c = (60 == c) || (38 == c)

-- Lines of a trace.

-- the lines of the nodes after slot t, and those of hosts in it, without their line feeds
abbrev pub texts_of_nodes : WholeTrace → ℕ → Lines
texts_of_nodes trace t = map (λ k. node_text trace.head t k (node_at (slot_at trace t) k)) (below trace.head.nodes)

abbrev pub texts_of_hosts : WholeTrace → ℕ → Lines
texts_of_hosts trace t = map (host_text t) (slot_at trace t).hosts

-- all lines of a trace, without their line feeds: the first, those of each slot, and those of the tests
abbrev pub texts_of_slot : WholeTrace → ℕ → Lines
texts_of_slot trace t = texts_of_nodes trace t ++ texts_of_hosts trace t

-- all lines of a trace
abbrev pub texts_of_trace : WholeTrace → Lines
texts_of_trace trace =
    first_text trace
    ∷ (flat_map (texts_of_slot trace) (below (length trace.slots))
    ++ (keeps_text trace ∷ option_to_list (returns_text trace)))

-- a line is that of a node or a host in slot t
abbrev pub is_of_slot : ℕ → List ℕ → Bool
is_of_slot t line =
    begins_with (codes "slot " ++ decimal t ++ codes " node ") line
    || begins_with (codes "slot " ++ decimal t ++ codes " host ") line

-- what the line of node k after slot t begins with
abbrev pub node_start : ℕ → ℕ → List ℕ
node_start t k = codes "slot " ++ decimal t ++ codes " node " ++ decimal k ++ codes " "

-- the lines of a text, without their line feeds
abbrev pub texts_of_lines : List ℕ → Lines
texts_of_lines text = map (λ line. take (length line - 1) line) (lines_of text)

-- The titles that a picture has.

-- what the cells below those of the nodes say: which members holders of these memberships hold, how far clocks are
-- apart, and whose is far from most
abbrev pub members_said : Head → ℕ → SlotLines → List ℕ → List ℕ
members_said head t slot [] = codes "slot " ++ decimal t ++ codes " members -"
members_said head t slot (members ∷ others) = members_title head t slot

abbrev pub clocks_said : ℕ → SlotLines → List ℕ
clocks_said t slot = codes "slot " ++ decimal t ++ codes " clocks apart " ++ apart_text (clock_range slot.nodes)

abbrev pub far_said : ℕ → SlotLines → List ℕ
far_said t slot = codes "slot " ++ decimal t ++ codes " clock apart from most " ++ far_text (node_apart slot.nodes)

-- the titles of the cells of slot t: those of the nodes are their lines
abbrev pub cell_titles : WholeTrace → ℕ → Lines
cell_titles trace t =
    let slot = slot_at trace t in
    texts_of_nodes trace t
    ++ (members_said trace.head t slot (shown_memberships slot.nodes) ∷ clocks_said t slot ∷ far_said t slot ∷ [])

-- the titles of the legend: what its classes and its marks mean, and these behind its words
abbrev pub class_titles : Lines
class_titles =
    codes "members: how many all nodes hold"
    ∷ codes "members: nodes hold different ones"
    ∷ codes "clocks: microticks between them"
    ∷ codes "12k: 12000 to 12999, 1M+: 1000000 up"
    ∷ codes "apart: its clock is far from most"
    ∷ codes "a message was sent or delivered"
    ∷ codes "holds other members than most"
    ∷ codes "in doubt about its own frame"
    ∷ codes "few took the frame of this sender"
    ∷ []

abbrev pub mark_titles : Lines
mark_titles =
    codes "its host writes a message"
    ∷ codes "its host reads a node's message"
    ∷ codes "its host reads its status"
    ∷ []

abbrev pub legend_titles : Lines
legend_titles = map word_text words ++ class_titles ++ mark_titles

-- the slots that a picture of a trace shows, and the titles that it has
abbrev pub shown_of : WholeTrace → Option Span → Span
shown_of trace asked = span_shown trace.head.nodes trace.slots asked

abbrev pub picture_titles : WholeTrace → Option Span → Lines
picture_titles trace asked =
    let shown = shown_slots (shown_of trace asked) in
    first_text trace ∷ (flat_map (cell_titles trace) shown ++ (flat_map (texts_of_hosts trace) shown ++ legend_titles))
