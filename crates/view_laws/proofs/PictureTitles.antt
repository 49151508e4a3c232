-- The titles of a picture are the first line of its trace, those of the cells and marks of each slot, and the legend's.
use Rattle.std.proofs.Common.{◌≡◌, ℕ, ◌+◌, ◌-◌, ◌*◌, List, [], ◌∷◌, ◌++◌, map, length}
use Rattle.std.proofs.Common.{refl, ap, subst, ◌∙◌, Option, Some, None, codes, decimal}
use Rattle.std.proofs.Common.{Bool}
use Rattle.std.specs.Prelude.{◌==◌, ◌%◌}
use Rattle.std.specs.List.{flat_map}
use Rattle.std.proofs.lemmas.List.{append_assoc, append-nil}
use Rattle.ttp_base.specs.NodeSet.{below}
use Rattle.ttp_base.specs.Text.{Lines}
use Rattle.ttp_world.specs.declared.keep.Back.{Back}
use Rattle.ttp_world.specs.declared.keep.Keep.{Keep}
use Rattle.ttp_world.specs.declared.script.Source.TheVariants as source
use Rattle.line_reader.specs.declared.trace_line.Word.{Word}
use Rattle.line_reader.specs.TraceLines.{word_text, keep_text, back_text}
use Rattle.whole_trace.specs.declared.shown.HostLine.{HostLine}
use Rattle.whole_trace.specs.declared.shown.HostLine.TheVariants as by_host
use Rattle.whole_trace.specs.declared.shown.Head.{Head}
use Rattle.whole_trace.specs.declared.shown.NodeShown.{NodeShown}
use Rattle.whole_trace.specs.Whole.{SlotLines, WholeTrace}
use Rattle.shown_slot.specs.Nodes.{is_leaving_word, is_refused, starts_round, clock_range, node_apart}
use Rattle.shown_slot.specs.Trace.{node_at, first_text, node_text, host_text}
use Rattle.picture_text.specs.declared.window.Span.{Span}
use Rattle.picture_text.specs.Cells.{title_element, cell, mark, write_shape, read_shape, status_shape}
use Rattle.picture_text.specs.Cells.{shown_memberships, held_by_most, node_class, node_cell, members_title, count_of}
use Rattle.picture_text.specs.Cells.{members_cell_of, members_cell, apart_text, apart_shown}
use Rattle.picture_text.specs.Cells.{clocks_cell, host_of, host_mark}
use Rattle.picture_text.specs.Cells.{far_text, far_shown, far_cell}
use Rattle.picture_text.specs.Picture.{ended, class_of, text_line, svg_line, ground_line}
use Rattle.picture_text.specs.Picture.{style_lines, said_line, back_said}
use Rattle.picture_text.specs.Picture.{window_text, picture_head_lines, row_line, band_lines}
use Rattle.picture_text.specs.Picture.{number_lines, slot_at, cell_lines}
use Rattle.picture_text.specs.Picture.{round_line, round_start_lines, round_entry}
use Rattle.picture_text.specs.Picture.{why_lines, why_box, why_word, beside_lines, is_shown, flag_pole, flag_lines}
use Rattle.picture_text.specs.Picture.{keep_flag, back_flag, legend_x, legend_y, legend_text, word_entries, cell_entry}
use Rattle.picture_text.specs.Picture.{mark_entry, class_entries, mark_entries, shown_slots, picture_of}
use Rattle.picture_text.specs.Tables.{words, letter, word_meaning, keep_meaning, back_meaning, keep_slot, keep_name}
use Rattle.picture_text.specs.Tables.{back_slot, back_name}
use Rattle.picture_text.specs.Window.{columns, bands, legend_top, height, column_x}
use Rattle.picture_text.specs.Window.{row_y, is_quiet_before, strange_past}
use Rattle.view_laws.specs.Titles.{texts_of_hosts, members_said, clocks_said, far_said, cell_titles}
use Rattle.view_laws.specs.Titles.{class_titles, mark_titles, legend_titles}
use Rattle.view_laws.proofs.FromBelow.{Plain, parts, plain-shown, plain-decimal, plain-word, plain-letter}
use Rattle.view_laws.proofs.FromBelow.{plain-meaning, plain-head, plain-keep, plain-back, plain-node, plain-host}
use Rattle.view_laws.proofs.FromBelow.{plain-keep_meaning, plain-back_meaning, plain-class, plain-members}
use Rattle.view_laws.proofs.FromBelow.{plain-no_members, plain-count, plain-clocks, plain-apart_shown, plain-keep_name}
use Rattle.view_laws.proofs.FromBelow.{plain-back_name, plain-far, plain-far_shown}
use Rattle.view_laws.proofs.TitlesIn.{◌▸◌, tag, plain, number, title, IsLineWith, closed}
use Rattle.view_laws.proofs.TitlesIn.{line_of, place-adds, text-titles, classed-titles}
use Rattle.view_laws.proofs.TitlesIn.{cell-titles, mark-titles, Have, ◌▹◌, untitled}
use Rattle.view_laws.proofs.TitlesIn.{titled, no-lines, bare-lines, bare, map-none}
use Rattle.view_laws.proofs.TitlesIn.{map-each, flat-none, flat-each, if-none}

-- The head.

svg-titles : (h : ℕ) → IsLineWith (svg_line h) []
svg-titles h =
    let all =
    tag (codes "<svg xmlns=\"http://www.w3.org/2000/svg\" width=\"1140\" height=\"") (λ rest. refl) refl ▸ number h
    ▸ plain (codes "\" viewBox=\"0 0 1140 ") refl ▸ number h in
    closed all (codes "\">\n") refl refl

ground-titles : (h : ℕ) → IsLineWith (ground_line h) []
ground-titles h =
    let all = tag (codes "<rect width=\"1140\" height=\"") (λ rest. refl) refl ▸ number h in
    closed all (codes "\" fill=\"#ffffff\"/>\n") refl refl

said-titles : (y : ℕ) (said meaning : List ℕ) → Plain said → Plain meaning → IsLineWith (said_line y said meaning) []
said-titles y said meaning s m =
    classed-titles (codes "said") 12 y (said ++ codes ": " ++ meaning) refl (simp (parts, s, m))

back_said-titles : (b : Option Back) → Have (back_said b) []
back_said-titles None = no-lines
back_said-titles (Some b) =
    untitled (said_line 78 (back_text b) (back_meaning b)) [] []
    (said-titles 78 (back_text b) (back_meaning b) (plain-back b) (plain-back_meaning b)) no-lines

styles-titles : Have style_lines []
styles-titles = bare style_lines (bare-lines style_lines refl refl)

head-titles : (trace : WholeTrace) (span : Span) → Have (picture_head_lines trace span) (first_text trace ∷ [])
head-titles trace span =
    let h = height trace.head.nodes span in
    let first = first_text trace in
    let quiet = is_quiet_before span.first trace.slots in
    let strange = strange_past span.last trace.slots in
    let shown = window_text span trace.head.slots quiet strange in
    let said = said_line 60 (keep_text trace.keep) (keep_meaning trace.keep) in
    let back = back_said trace.back in
    let name = title first (plain-head trace.head) in
    let all =
    untitled (svg_line h) (ended (title_element first) ∷ style_lines) (first ∷ []) (svg-titles h)
    (titled (ended (title_element first)) style_lines first [] (line_of name) styles-titles)
    ▹ untitled (ground_line h) (text_line [] 12 20 first ∷ text_line [] 12 40 shown ∷ said ∷ back) [] (ground-titles h)
    (untitled (text_line [] 12 20 first) (text_line [] 12 40 shown ∷ said ∷ back) []
    (text-titles [] 12 20 first refl (plain-head trace.head))
    (untitled (text_line [] 12 40 shown) (said ∷ back) []
    (text-titles [] 12 40 shown refl (plain-shown span trace.head.slots quiet strange))
    (untitled said back []
    (said-titles 60 (keep_text trace.keep) (keep_meaning trace.keep)
    (plain-keep trace.keep) (plain-keep_meaning trace.keep))
    (back_said-titles trace.back)))) in
    record { are = all.are; once = all.once; each = all.each }

-- Bands.

row-titles : (y : ℕ) (name : List ℕ) → Plain name → IsLineWith (row_line y name) []
row-titles y name is = classed-titles (codes "row") 64 y name refl is

band-titles : (n : ℕ) (span : Span) (band : ℕ) → Have (band_lines n span band) []
band-titles n span band =
    let t = span.first + columns n * band in
    let row : ℕ → List ℕ = λ k. row_line (row_y n span t k + 14) (codes "node " ++ decimal k) in
    let members = row_line (row_y n span t n + 18) (codes "members") in
    let clocks = row_line (row_y n span t (n + 1) + 18) (codes "clocks") in
    let apart = row_line (row_y n span t (n + 2) + 18) (codes "apart") in
    let all =
    map-none row (below n) (λ k. row-titles (row_y n span t k + 14) (codes "node " ++ decimal k) (simp parts))
    ▹ untitled members (clocks ∷ apart ∷ []) [] (row-titles (row_y n span t n + 18) (codes "members") refl)
    (untitled clocks (apart ∷ []) [] (row-titles (row_y n span t (n + 1) + 18) (codes "clocks") refl)
    (untitled apart [] [] (row-titles (row_y n span t (n + 2) + 18) (codes "apart") refl) no-lines)) in
    record { are = all.are; once = all.once; each = all.each }

-- Cells.

number-titles : (n : ℕ) (span : Span) (t : ℕ) → Have (number_lines n span t) []
number-titles n span t =
    let x = column_x n span t + 9 in
    let y = row_y n span t 0 - 5 in
    if-none (t % 5 == 0) (text_line (class_of (codes "slot")) x y (decimal t) ∷ [])
    (untitled (text_line (class_of (codes "slot")) x y (decimal t)) [] []
    (classed-titles (codes "slot") x y (decimal t) refl (plain-decimal t)) no-lines)

line-titles : (x y high : ℕ) → IsLineWith (round_line x y high) []
line-titles x y high =
    let all =
    tag (codes "<path class=\"round\" d=\"M") (λ rest. refl) refl ▸ number x ▸ plain (codes " ") refl ▸ number y
    ▸ plain (codes "h1v") refl ▸ number high in
    closed all (codes "h-1z\"/>\n") refl refl

round-titles : (n : ℕ) (span : Span) (t : ℕ) (slot : SlotLines) → Have (round_start_lines n span t slot) []
round-titles n span t slot =
    let x = column_x n span t - 1 in
    let y = row_y n span t 0 - 3 in
    if-none (starts_round slot.nodes) (round_line x y (20 * n + 6) ∷ [])
    (untitled (round_line x y (20 * n + 6)) [] [] (line-titles x y (20 * n + 6)) no-lines)

node-titles : (head : Head) (t k : ℕ) (node : NodeShown) (most : Option ℕ) (refused : Bool) (x y : ℕ)
    → IsLineWith (node_cell head t k node most refused x y) (node_text head t k node ∷ [])
node-titles head t k node most refused x y =
    cell-titles (node_class node most refused) x y (node_text head t k node) (letter node.word)
    (plain-class node most refused) (plain-node head t k node) (plain-letter node.word)

members-titles : (head : Head) (slot : SlotLines) (held : List ℕ) (t x y : ℕ)
    → IsLineWith (members_cell_of held slot.nodes t x y (members_title head t slot))
    (members_said head t slot held ∷ [])
members-titles head slot [] t x y =
    cell-titles (codes "none") x y (codes "slot " ++ decimal t ++ codes " members -")
    (codes "-") refl (plain-no_members t) refl
members-titles head slot (one ∷ []) t x y =
    cell-titles (codes "agree") x y (members_title head t slot) (count_of slot.nodes) refl (plain-members head t slot)
    (plain-count slot.nodes)
members-titles head slot (one ∷ other ∷ more) t x y =
    cell-titles (codes "differ") x y (members_title head t slot) (codes "!") refl (plain-members head t slot) refl

clocks-titles : (t : ℕ) (slot : SlotLines) (x y : ℕ) → IsLineWith (clocks_cell t slot x y) (clocks_said t slot ∷ [])
clocks-titles t slot x y =
    let range = clock_range slot.nodes in
    cell-titles (codes "none") x y (codes "slot " ++ decimal t ++ codes " clocks apart " ++ apart_text range)
    (apart_shown range) refl (plain-clocks t range) (plain-apart_shown range)

far-titles : (t : ℕ) (slot : SlotLines) (x y : ℕ) → IsLineWith (far_cell t slot x y) (far_said t slot ∷ [])
far-titles t slot x y =
    let far = node_apart slot.nodes in
    cell-titles (codes "apart") x y (codes "slot " ++ decimal t ++ codes " clock apart from most " ++ far_text far)
    (far_shown far) refl (plain-far t far) (plain-far_shown far)

slot-titles : (trace : WholeTrace) (span : Span) (t : ℕ)
    → Have (cell_lines trace.head span t (slot_at trace t)) (cell_titles trace t)
slot-titles trace span t =
    let head = trace.head in
    let slot = slot_at trace t in
    let n = head.nodes in
    let x = column_x n span t in
    let most = held_by_most slot in
    let refused = is_refused slot.nodes in
    let name : ℕ → List ℕ = λ k. node_text head t k (node_at slot k) in
    let node : ℕ → List ℕ = λ k. node_cell head t k (node_at slot k) most refused x (row_y n span t k) in
    let members = members_cell head t slot x (row_y n span t n + 4) in
    let clocks = clocks_cell t slot x (row_y n span t (n + 1) + 4) in
    let far = far_cell t slot x (row_y n span t (n + 2) + 4) in
    let said = members_said head t slot (shown_memberships slot.nodes) in
    let apart = clocks_said t slot in
    let most_far = far_said t slot in
    let all =
    number-titles n span t ▹ round-titles n span t slot
    ▹ map-each node name (below n) (λ k. node-titles head t k (node_at slot k) most refused x (row_y n span t k))
    ▹ titled members (clocks ∷ far ∷ []) said (apart ∷ most_far ∷ [])
    (members-titles head slot (shown_memberships slot.nodes) t x (row_y n span t n + 4))
    (titled clocks (far ∷ []) apart (most_far ∷ []) (clocks-titles t slot x (row_y n span t (n + 1) + 4))
    (titled far [] most_far [] (far-titles t slot x (row_y n span t (n + 2) + 4)) no-lines)) in
    record { are = all.are; once = all.once; each = all.each }

-- What stands beside the cells.

why_box-titles : (w : Word) (x y : ℕ) → IsLineWith (why_box w x y) []
why_box-titles w x y =
    let all =
    tag (codes "<rect class=\"why\"") (λ rest. refl) refl ▸ place-adds x y ▸ plain (codes " width=\"") refl
    ▸ number (7 * length (word_text w) + 6) in
    closed all (codes "\" height=\"19\"/>\n") refl refl

why-titles : (n : ℕ) (span : Span) (t : ℕ) (slot : SlotLines) (k : ℕ) → Have (why_lines n span t slot k) []
why-titles n span t slot k =
    let w = (node_at slot k).word in
    let x = column_x n span t in
    let y = row_y n span t k in
    let box = why_box w (x + 20) y in
    let word = why_word w (x + 23) (y + 14) in
    if-none (is_leaving_word w) (box ∷ word ∷ [])
    (untitled box (word ∷ []) [] (why_box-titles w (x + 20) y)
    (untitled word [] [] (classed-titles (codes "why") (x + 23) (y + 14) (word_text w) refl (plain-word w)) no-lines))

host-titles : (t : ℕ) (by : HostLine) (x y : ℕ) → IsLineWith (host_mark t by x y) (host_text t by ∷ [])
host-titles t (by_host.Write host number) x y =
    let by = by_host.Write host number in
    mark-titles (codes "write") write_shape x (y + 19) (host_text t by) refl refl (plain-host t by)
host-titles t (by_host.Read host source.Status number payload) x y =
    let by = by_host.Read host source.Status number payload in
    mark-titles (codes "status") status_shape (x + 19) y (host_text t by) refl refl (plain-host t by)
host-titles t (by_host.Read host (source.Node p) number payload) x y =
    let by = by_host.Read host (source.Node p) number payload in
    mark-titles (codes "read") read_shape (x + 19) (y + 19) (host_text t by) refl refl (plain-host t by)

beside-titles : (trace : WholeTrace) (span : Span) (t : ℕ)
    → Have (beside_lines trace.head.nodes span t (slot_at trace t)) (texts_of_hosts trace t)
beside-titles trace span t =
    let n = trace.head.nodes in
    let slot = slot_at trace t in
    let shown : HostLine → List ℕ = λ by. host_mark t by (column_x n span t) (row_y n span t (host_of by)) in
    let all =
    flat-none (why_lines n span t slot) (below n) (why-titles n span t slot)
    ▹ map-each shown (host_text t) slot.hosts (λ by.
    host-titles t by (column_x n span t) (row_y n span t (host_of by))) in
    record { are = all.are; once = all.once; each = all.each }

-- Flags.

pole-titles : (n : ℕ) (span : Span) (t : ℕ) → IsLineWith (flag_pole n span t) []
pole-titles n span t =
    let all =
    tag (codes "<path class=\"flag\" d=\"M") (λ rest. refl) refl ▸ number
    (column_x n span t - 1) ▸ plain (codes " ") refl
    ▸ number (row_y n span t 0 - 26) ▸ plain (codes "v") refl ▸ number (20 * n + 26) in
    closed all (codes "\"/>\n") refl refl

flag-titles : (n : ℕ) (span : Span) (t : ℕ) (class : List ℕ) (x : ℕ) (name : List ℕ) → Plain class → Plain name
    → Have (flag_lines n span t class x name) []
flag-titles n span t class x name c s =
    let y = row_y n span t 0 - 17 in
    let word = text_line (class_of class) x y name in
    if-none (is_shown span t) (flag_pole n span t ∷ word ∷ [])
    (untitled (flag_pole n span t) (word ∷ []) [] (pole-titles n span t)
    (untitled word [] [] (classed-titles class x y name c s) no-lines))

keep-titles : (n : ℕ) (span : Span) (k : Keep) → Have (keep_flag n span k) []
keep-titles n span k =
    flag-titles n span (keep_slot k) (codes "keep")
    (column_x n span (keep_slot k) - 4) (keep_name k) refl (plain-keep_name k)

back-titles : (n : ℕ) (span : Span) (b : Option Back) → Have (back_flag n span b) []
back-titles n span None = no-lines
back-titles n span (Some b) =
    flag-titles n span (back_slot b) (codes "back")
    (column_x n span (back_slot b) + 3) (back_name b) refl (plain-back_name b)

-- The legend.

legend-titles : (x y : ℕ) (meaning : List ℕ) → Plain meaning → IsLineWith (legend_text x y meaning) []
legend-titles x y meaning is = text-titles [] (x + 25) (y + 14) meaning refl is

-- an entry: a line with a title, and a text
entry : (first : List ℕ) (x y : ℕ) (name meaning : List ℕ) → IsLineWith first (name ∷ []) → Plain meaning
    → Have (first ∷ legend_text x y meaning ∷ []) (name ∷ [])
entry first x y name meaning is m =
    titled first (legend_text x y meaning ∷ []) name [] is
    (untitled (legend_text x y meaning) [] [] (legend-titles x y meaning m) no-lines)

words-titles : (top i : ℕ) (ws : List Word) → Have (word_entries top i ws) (map word_text ws)
words-titles top i [] = no-lines
words-titles top i (w ∷ ws) =
    let x = legend_x i in
    let y = legend_y top i in
    let name = cell-titles (word_text w) x y (word_text w) (letter w) (plain-word w) (plain-word w) (plain-letter w) in
    let all =
    entry (cell (word_text w) x y (word_text w) (letter w)) x y (word_text w)
    (word_text w ++ codes ": " ++ word_meaning w)
    name (plain-meaning w)
    ▹ words-titles top (i + 1) ws in
    record { are = all.are; once = all.once; each = all.each }

cell_entry-titles : (top i : ℕ) (class shown meaning : List ℕ) → Plain class → Plain shown → Plain meaning
    → Have (cell_entry top i class shown meaning) (meaning ∷ [])
cell_entry-titles top i class shown meaning c s m =
    let x = legend_x i in
    let y = legend_y top i in
    entry (cell class x y meaning shown) x y meaning meaning (cell-titles class x y meaning shown c m s) m

round_entry-titles : (top i : ℕ) (meaning : List ℕ) → Plain meaning → Have (round_entry top i meaning) []
round_entry-titles top i meaning m =
    let x = legend_x i in
    let y = legend_y top i in
    untitled (round_line (x + 9) y 19) (legend_text x y meaning ∷ []) [] (line-titles (x + 9) y 19)
    (untitled (legend_text x y meaning) [] [] (legend-titles x y meaning m) no-lines)

mark_entry-titles : (top i : ℕ) (class shape : List ℕ) (right down : ℕ) (meaning : List ℕ) → Plain class → Plain shape
    → Plain meaning → Have (mark_entry top i class shape right down meaning) (meaning ∷ [])
mark_entry-titles top i class shape right down meaning c s m =
    let x = legend_x i in
    let y = legend_y top i in
    entry (mark class shape (x + right) (y + down) meaning) x y meaning meaning
    (mark-titles class shape (x + right) (y + down) meaning c s m) m

classes-titles : (top : ℕ) → Have (class_entries top) class_titles
classes-titles top =
    let all =
    cell_entry-titles top 0 (codes "agree") (codes "4") (codes "members: how many all nodes hold") refl refl refl
    ▹ cell_entry-titles top 1 (codes "differ") (codes "!") (codes "members: nodes hold different ones") refl refl refl
    ▹ round_entry-titles top 2 (codes "a round begins: node 0 is due") refl
    ▹ cell_entry-titles top 3 (codes "none") (codes "7") (codes "clocks: microticks between them") refl refl refl
    ▹ cell_entry-titles top 4 (codes "none") (codes "12k") (codes "12k: 12000 to 12999, 1M+: 1000000 up") refl refl refl
    ▹ cell_entry-titles top 5 (codes "apart") (codes "3") (codes "apart: its clock is far from most") refl refl refl
    ▹ cell_entry-titles top 6 (codes "correct data") (codes "c")
    (codes "a message was sent or delivered") refl refl refl
    ▹ cell_entry-titles top 7 (codes "correct other") (codes "c") (codes "holds other members than most") refl refl refl
    ▹ cell_entry-titles top 8 (codes "correct doubt") (codes "c") (codes "in doubt about its own frame") refl refl refl
    ▹ cell_entry-titles top 9 (codes "send refused") (codes "s")
    (codes "few took the frame of this sender") refl refl refl in
    record { are = all.are; once = all.once; each = all.each }

marks-titles : (top : ℕ) → Have (mark_entries top) mark_titles
marks-titles top =
    let all =
    mark_entry-titles top 10 (codes "write") write_shape 0 19 (codes "its host writes a message") refl refl refl
    ▹ mark_entry-titles top 11 (codes "read") read_shape 19 19 (codes "its host reads a node's message") refl refl refl
    ▹ mark_entry-titles top 12 (codes "status") status_shape 19 0 (codes "its host reads its status") refl refl refl in
    record { are = all.are; once = all.once; each = all.each }

-- The whole.

infixl 20 ◌▿◌
-- lines without a title behind others
◌▿◌ : {xs ys a : Lines} → Have xs a → Have ys [] → Have (xs ++ ys) a
◌▿◌ {xs} {ys} {a} p q = subst (Have (xs ++ ys)) (append-nil a) (p ▹ q)

pub picture_of-titles : (trace : WholeTrace) (span : Span)
    → Have (picture_of trace span) (first_text trace
    ∷ (flat_map (cell_titles trace) (shown_slots span) ++
    (flat_map (texts_of_hosts trace) (shown_slots span) ++ legend_titles)))
picture_of-titles trace span =
    let n = trace.head.nodes in
    let top = legend_top n span in
    let cells : ℕ → Lines = λ t. cell_lines trace.head span t (slot_at trace t) in
    let beside : ℕ → Lines = λ t. beside_lines n span t (slot_at trace t) in
    let shown = flat_map (cell_titles trace) (shown_slots span) in
    let done = flat_map (texts_of_hosts trace) (shown_slots span) in
    let front = first_text trace ∷ (shown ++ done) in
    let entries = map word_text words in
    let all =
    head-titles trace span
    ▹ flat-none (band_lines n span) (below (bands n span)) (band-titles n span)
    ▹ flat-each cells (cell_titles trace) (shown_slots span) (slot-titles trace span)
    ▹ flat-each beside (texts_of_hosts trace) (shown_slots span) (beside-titles trace span)
    ▿ keep-titles n span trace.keep ▿ back-titles n span trace.back ▹ words-titles top 0 words
    ▹ classes-titles (top + 118) ▹ marks-titles (top + 118)
    ▿ untitled (ended (codes "</svg>")) [] [] (record { titled = refl; one = refl }) no-lines in record {
      are = all.are ∙ ap (λ (names : Lines). names ++ mark_titles) (append_assoc front entries class_titles)
          ∙ append_assoc front (entries ++ class_titles) mark_titles
          ∙ append_assoc (first_text trace ∷ shown) done legend_titles;
      once = all.once;
      each = all.each;
    }
