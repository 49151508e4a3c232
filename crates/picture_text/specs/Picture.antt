-- The picture of a trace, line by line.
use Rattle.std.specs.Prelude.{ℕ, ◌+◌, ◌-◌, ◌*◌, ◌/◌, ◌%◌, ◌==◌, nat_le, Bool, ◌&&◌, List, [], ◌∷◌, ◌++◌, map}
use Rattle.std.specs.Prelude.{length, get_or, flat_map, Option, Some, None, codes, decimal, if◌then◌else◌}
use Rattle.std.specs.List.{range_with_len}
use Rattle.ttp_base.specs.NodeSet.{below}
use Rattle.ttp_base.specs.Text.{Lines, newline, lines_below}
use Rattle.ttp_world.specs.declared.keep.Back.{Back}
use Rattle.ttp_world.specs.declared.keep.Keep.{Keep}
use Rattle.line_reader.specs.declared.trace_line.Word.{Word}
use Rattle.line_reader.specs.TraceLines.{word_text, keep_text, back_text}
use Rattle.whole_trace.specs.declared.shown.Head.{Head}
use Rattle.whole_trace.specs.Whole.{SlotLines, WholeTrace}
use Rattle.shown_slot.specs.Nodes.{is_leaving_word, is_refused, starts_round}
use Rattle.shown_slot.specs.Trace.{node_at, first_text}
use Rattle.picture_text.specs.declared.window.Span.{Span}
use Rattle.picture_text.specs.Cells.{attribute, place_attributes, title_element, cell, mark, write_shape, read_shape}
use Rattle.picture_text.specs.Cells.{status_shape, held_by_most, node_cell, members_cell}
use Rattle.picture_text.specs.Cells.{clocks_cell, far_cell, host_of}
use Rattle.picture_text.specs.Cells.{host_mark}
use Rattle.picture_text.specs.Tables.{words, letter, cell_colour, letter_colour, word_meaning, styles, keep_meaning}
use Rattle.picture_text.specs.Tables.{back_meaning, keep_slot, keep_name, back_slot, back_name}
use Rattle.picture_text.specs.Window.{span_shown, is_quiet_before, strange_past, columns, bands, legend_top, height}
use Rattle.picture_text.specs.Window.{column_x, row_y}

abbrev pub ended : List ℕ → List ℕ
ended text = text ++ newline

-- a text of this class, if it has one, at a place
abbrev pub class_of : List ℕ → List ℕ
class_of class = attribute (codes "class") class

abbrev pub text_line : List ℕ → ℕ → ℕ → List ℕ → List ℕ
text_line class x y shown =
    codes "<text" ++ class ++ place_attributes x y ++ codes ">" ++ shown ++ codes "</text>\n"

-- The head.

abbrev pub svg_line : ℕ → List ℕ
svg_line h =
    codes "<svg xmlns=\"http://www.w3.org/2000/svg\" width=\"1140\" height=\"" ++ decimal h
    ++ codes "\" viewBox=\"0 0 1140 " ++ decimal h ++ codes "\">\n"

-- what all else is drawn on
abbrev pub ground_line : ℕ → List ℕ
ground_line h = codes "<rect width=\"1140\" height=\"" ++ decimal h ++ codes "\" fill=\"#ffffff\"/>\n"

abbrev pub word_style : Word → List ℕ
word_style w =
    ended (codes "." ++ word_text w ++ codes " rect{fill:" ++ cell_colour w ++ codes "}." ++ word_text w
    ++ codes " text{fill:" ++ letter_colour w ++ codes "}")

abbrev pub style_lines : Lines
style_lines =
    ended (codes "<style>")
    ∷ ended (codes "text{font:12px DejaVu Sans Mono,Consolas,monospace}g text{text-anchor:middle;font-size:11px}")
    ∷ map word_style words ++ map ended styles ++ ended (codes "</style>") ∷ []

-- what is left out before the first slot shown: quiet slots alone, or any
abbrev pub before_text : ℕ → Bool → List ℕ
before_text first quiet =
    if first == 0
    then []
    else if quiet
    then codes "; before: all nodes off or listening"
    else codes "; before: ttplab picture TRACE 0 " ++ decimal (first - 1)

-- what is left out behind the last slot shown, of all slots of the trace
abbrev pub behind_text : ℕ → ℕ → List ℕ
behind_text last slots =
    if last + 1 == slots
    then []
    else codes "; behind: ttplab picture TRACE " ++ decimal (last + 1) ++ codes " " ++ decimal (slots - 1)

-- that more happens past the slots shown
abbrev pub more_text : Option ℕ → List ℕ
more_text None = []
more_text (Some s) = codes "; more happens in slot " ++ decimal s

abbrev pub window_text : Span → ℕ → Bool → Option ℕ → List ℕ
window_text span slots quiet strange =
    codes "shown: slots " ++ decimal span.first ++ codes " to " ++ decimal span.last ++ codes " of 0 to "
    ++ decimal (slots - 1) ++ before_text span.first quiet ++ behind_text span.last slots ++ more_text strange

abbrev pub said_line : ℕ → List ℕ → List ℕ → List ℕ
said_line y said meaning = text_line (class_of (codes "said")) 12 y (said ++ codes ": " ++ meaning)

abbrev pub back_said : Option Back → Lines
back_said None = []
back_said (Some b) = said_line 78 (back_text b) (back_meaning b) ∷ []

abbrev pub picture_head_lines : WholeTrace → Span → Lines
picture_head_lines trace span =
    let h = height trace.head.nodes span in
    svg_line h ∷ ended (title_element (first_text trace)) ∷ style_lines
    ++ ground_line h
    ∷ text_line [] 12 20 (first_text trace)
    ∷ text_line [] 12 40 (window_text span trace.head.slots (is_quiet_before span.first trace.slots)
    (strange_past span.last trace.slots))
    ∷ said_line 60 (keep_text trace.keep) (keep_meaning trace.keep)
    ∷ back_said trace.back

-- The names of the rows of each band.

abbrev pub row_line : ℕ → List ℕ → List ℕ
row_line y name = text_line (class_of (codes "row")) 64 y name

abbrev pub band_lines : ℕ → Span → ℕ → Lines
band_lines n span band =
    let t = span.first + columns n * band in
    map (λ k. row_line (row_y n span t k + 14) (codes "node " ++ decimal k)) (below n)
    ++ row_line (row_y n span t n + 18) (codes "members")
    ∷ row_line (row_y n span t (n + 1) + 18) (codes "clocks")
    ∷ row_line (row_y n span t (n + 2) + 18) (codes "apart")
    ∷ []

-- The cells of a slot.

abbrev pub number_lines : ℕ → Span → ℕ → Lines
number_lines n span t =
    if t % 5 == 0
    then text_line (class_of (codes "slot")) (column_x n span t + 9) (row_y n span t 0 - 5) (decimal t) ∷ []
    else []

-- a line of a round, from this place down
abbrev pub round_line : ℕ → ℕ → ℕ → List ℕ
round_line x y high =
    codes "<path class=\"round\" d=\"M" ++ decimal x ++ codes " " ++ decimal y ++ codes "h1v" ++ decimal high
    ++ codes "h-1z\"/>\n"

-- before a slot in which a round begins
abbrev pub round_start_lines : ℕ → Span → ℕ → SlotLines → Lines
round_start_lines n span t slot =
    if starts_round slot.nodes
    then round_line (column_x n span t - 1) (row_y n span t 0 - 3) (20 * n + 6) ∷ []
    else []

abbrev pub no_slot_lines : SlotLines
no_slot_lines = record { nodes = []; hosts = [] }

abbrev pub slot_at : WholeTrace → ℕ → SlotLines
slot_at trace t = get_or trace.slots t no_slot_lines

abbrev pub cell_lines : Head → Span → ℕ → SlotLines → Lines
cell_lines head span t slot =
    let n = head.nodes in
    let x = column_x n span t in
    let most = held_by_most slot in
    let refused = is_refused slot.nodes in
    number_lines n span t
    ++ round_start_lines n span t slot
    ++ map (λ k. node_cell head t k (node_at slot k) most refused x (row_y n span t k)) (below n)
    ++ members_cell head t slot x (row_y n span t n + 4)
    ∷ clocks_cell t slot x (row_y n span t (n + 1) + 4)
    ∷ far_cell t slot x (row_y n span t (n + 2) + 4)
    ∷ []

-- What stands beside the cells of a slot: why a node left, and what hosts did.

abbrev pub why_box : Word → ℕ → ℕ → List ℕ
why_box w x y =
    codes "<rect class=\"why\"" ++ place_attributes x y ++ codes " width=\"" ++ decimal (7 * length (word_text w) + 6)
    ++ codes "\" height=\"19\"/>\n"

abbrev pub why_word : Word → ℕ → ℕ → List ℕ
why_word w x y = text_line (class_of (codes "why")) x y (word_text w)

abbrev pub why_lines : ℕ → Span → ℕ → SlotLines → ℕ → Lines
why_lines n span t slot k =
    let w = (node_at slot k).word in
    let x = column_x n span t in
    let y = row_y n span t k in
    if is_leaving_word w then why_box w (x + 20) y ∷ why_word w (x + 23) (y + 14) ∷ [] else []

abbrev pub beside_lines : ℕ → Span → ℕ → SlotLines → Lines
beside_lines n span t slot =
    lines_below (why_lines n span t slot) n
    ++ map (λ line. host_mark t line (column_x n span t) (row_y n span t (host_of line))) slot.hosts

-- The flags of the tests, where their slots are shown.

abbrev pub is_shown : Span → ℕ → Bool
is_shown span t = nat_le span.first t && nat_le t span.last

abbrev pub flag_pole : ℕ → Span → ℕ → List ℕ
flag_pole n span t =
    codes "<path class=\"flag\" d=\"M" ++ decimal (column_x n span t - 1) ++ codes " "
    ++ decimal (row_y n span t 0 - 26) ++ codes "v" ++ decimal (20 * n + 26) ++ codes "\"/>\n"

abbrev pub flag_lines : ℕ → Span → ℕ → List ℕ → ℕ → List ℕ → Lines
flag_lines n span t class x name =
    if is_shown span t
    then flag_pole n span t ∷ text_line (class_of class) x (row_y n span t 0 - 17) name ∷ []
    else []

abbrev pub keep_flag : ℕ → Span → Keep → Lines
keep_flag n span k = flag_lines n span (keep_slot k) (codes "keep") (column_x n span (keep_slot k) - 4) (keep_name k)

abbrev pub back_flag : ℕ → Span → Option Back → Lines
back_flag n span None = []
back_flag n span (Some b) =
    flag_lines n span (back_slot b) (codes "back") (column_x n span (back_slot b) + 3) (back_name b)

-- The legend: words, classes and marks.

abbrev pub legend_x : ℕ → ℕ
legend_x i = 72 + 345 * (i % 3)

abbrev pub legend_y : ℕ → ℕ → ℕ
legend_y top i = top + 22 * (i / 3)

abbrev pub legend_text : ℕ → ℕ → List ℕ → List ℕ
legend_text x y meaning = text_line [] (x + 25) (y + 14) meaning

-- entry i, of a word
abbrev pub word_entry : ℕ → ℕ → Word → Lines
word_entry top i w =
    cell (word_text w) (legend_x i) (legend_y top i) (word_text w) (letter w)
    ∷ legend_text (legend_x i) (legend_y top i) (word_text w ++ codes ": " ++ word_meaning w) ∷ []

abbrev pub word_entries : ℕ → ℕ → List Word → Lines
word_entries top i [] = []
word_entries top i (w ∷ ws) = word_entry top i w ++ word_entries top (i + 1) ws

-- entry i, a cell of a class
abbrev pub cell_entry : ℕ → ℕ → List ℕ → List ℕ → List ℕ → Lines
cell_entry top i class shown meaning =
    cell class (legend_x i) (legend_y top i) meaning shown ∷ legend_text (legend_x i) (legend_y top i) meaning ∷ []

-- the line of a round
abbrev pub round_entry : ℕ → ℕ → List ℕ → Lines
round_entry top i meaning =
    round_line (legend_x i + 9) (legend_y top i) 19 ∷ legend_text (legend_x i) (legend_y top i) meaning ∷ []

-- an entry of the key that is a mark, moved to the right and down
abbrev pub mark_entry : ℕ → ℕ → List ℕ → List ℕ → ℕ → ℕ → List ℕ → Lines
mark_entry top i class shape right down meaning =
    mark class shape (legend_x i + right) (legend_y top i + down) meaning
    ∷ legend_text (legend_x i) (legend_y top i) meaning ∷ []

abbrev pub class_entries : ℕ → Lines
class_entries top =
    cell_entry top 0 (codes "agree") (codes "4") (codes "members: how many all nodes hold")
    ++ cell_entry top 1 (codes "differ") (codes "!") (codes "members: nodes hold different ones")
    ++ round_entry top 2 (codes "a round begins: node 0 is due")
    ++ cell_entry top 3 (codes "none") (codes "7") (codes "clocks: microticks between them")
    ++ cell_entry top 4 (codes "none") (codes "12k") (codes "12k: 12000 to 12999, 1M+: 1000000 up")
    ++ cell_entry top 5 (codes "apart") (codes "3") (codes "apart: its clock is far from most")
    ++ cell_entry top 6 (codes "correct data") (codes "c") (codes "a message was sent or delivered")
    ++ cell_entry top 7 (codes "correct other") (codes "c") (codes "holds other members than most")
    ++ cell_entry top 8 (codes "correct doubt") (codes "c") (codes "in doubt about its own frame")
    ++ cell_entry top 9 (codes "send refused") (codes "s") (codes "few took the frame of this sender")

abbrev pub mark_entries : ℕ → Lines
mark_entries top =
    mark_entry top 10 (codes "write") write_shape 0 19 (codes "its host writes a message")
    ++ mark_entry top 11 (codes "read") read_shape 19 19 (codes "its host reads a node's message")
    ++ mark_entry top 12 (codes "status") status_shape 19 0 (codes "its host reads its status")

-- The whole.

-- the numbers of the slots that are shown
abbrev pub shown_slots : Span → List ℕ
shown_slots span = range_with_len span.first (span.last + 1 - span.first)

abbrev pub picture_of : WholeTrace → Span → Lines
picture_of trace span =
    let n = trace.head.nodes in
    let top = legend_top n span in
    picture_head_lines trace span
    ++ lines_below (band_lines n span) (bands n span)
    ++ flat_map (λ t. cell_lines trace.head span t (slot_at trace t)) (shown_slots span)
    ++ flat_map (λ t. beside_lines n span t (slot_at trace t)) (shown_slots span)
    ++ keep_flag n span trace.keep ++ back_flag n span trace.back
    ++ word_entries top 0 words ++ class_entries (top + 118) ++ mark_entries (top + 118) ++ ended (codes "</svg>") ∷ []

-- of the slots that were asked for, or else of those that are chosen
abbrev pub picture_lines : WholeTrace → Option Span → Lines
picture_lines trace asked = picture_of trace (span_shown trace.head.nodes trace.slots asked)
