-- The chart of a campaign, line by line.
use Rattle.std.specs.Prelude.{ℕ, ◌+◌, ◌-◌, ◌*◌, min, ◌&&◌, List, [], ◌∷◌, ◌++◌, map, length, get_or, Option, Some, None}
use Rattle.std.specs.Prelude.{codes, decimal}
use Rattle.ttp_base.specs.NodeSet.{below}
use Rattle.ttp_base.specs.Text.{Lines, lines_below}
use Rattle.campaign.specs.declared.cost.Counts.{Counts}
use Rattle.whole_campaign.specs.declared.shown.Test.{Test}
use Rattle.whole_campaign.specs.declared.shown.Test.TheVariants as test
use Rattle.whole_campaign.specs.Own.{OwnShown}
use Rattle.whole_campaign.specs.Readable.{counts_sum}
use Rattle.whole_campaign.specs.Whole.{FaultTold, WholeCampaign}
use Rattle.picture_text.specs.declared.window.Span.{Span}
use Rattle.picture_text.specs.Cells.{title_element}
use Rattle.picture_text.specs.Picture.{class_of, ended, text_line, row_line}
use Rattle.picture_text.specs.Tables.{keep_meaning, back_meaning, keep_slot, keep_name, back_slot, back_name}
use Rattle.picture_text.specs.Window.{columns}
use Rattle.chart_text.specs.declared.look.Look.{Look}
use Rattle.chart_text.specs.declared.size.Size.{Size}
use Rattle.chart_text.specs.declared.sum.Summed.TheVariants as summed
use Rattle.chart_text.specs.Column.{column_lines}
use Rattle.chart_text.specs.Columns.{size_of_campaign, first_told_slot, is_hidden, slots_shown, place_in, chart_bands}
use Rattle.chart_text.specs.Columns.{list_top, key_top, chart_height, chart_x, chart_y, beside_x}
use Rattle.chart_text.specs.Elements.{pole}
use Rattle.chart_text.specs.Key.{all_counts, key_and_table}
use Rattle.chart_text.specs.Looks.{does_harm, looks, look_selector, look_colour, look_letter_colour}
use Rattle.chart_text.specs.Sums.{faults_told_of, sum_cell, harmful_among, harmful_line}
use Rattle.chart_text.specs.Worst.{ten_worst, worst_lines, most_lost}

-- The head.

abbrev pub chart_svg : ℕ → List ℕ
chart_svg height =
    codes "<svg xmlns=\"http://www.w3.org/2000/svg\" width=\"1320\" height=\"" ++ decimal height
    ++ codes "\" viewBox=\"0 0 1320 " ++ decimal height ++ codes "\">\n"

abbrev pub chart_ground : ℕ → List ℕ
chart_ground height = codes "<rect width=\"1320\" height=\"" ++ decimal height ++ codes "\" fill=\"#ffffff\"/>\n"

abbrev pub chart_title : Size → List ℕ
chart_title size =
    ended (title_element (codes "ttplab campaign 1 nodes " ++ decimal size.nodes
    ++ codes " slots " ++ decimal size.slots))

abbrev pub look_style : Look → List ℕ
look_style look =
    ended (codes "." ++ look_selector look ++ codes "{fill:" ++ look_colour look ++ codes "}." ++ look_selector look
    ++ codes " text{fill:" ++ look_letter_colour look ++ codes "}")

-- The styles behind those of the looks.
abbrev pub other_styles : Lines
other_styles =
    codes ".none{fill:#ffffff}.none text{fill:#666666}.sends rect{stroke:#00497a;stroke-width:2}"
    ∷ codes ".row{text-anchor:end}.slot{text-anchor:middle;font-size:10px;fill:#444444}.said{font-weight:bold}"
    ∷ codes ".many,.zero{text-anchor:end;font-size:10px}.zero{fill:#b0b0b0}.flag{pointer-events:none}.keep{font-size:10px}"
    ∷ codes "path{stroke:#000000;stroke-opacity:0}path.hurt,path.split,path.torn,path.dead{stroke-width:.5}"
    ∷ codes "path.hurt,path.split,path.torn,path.dead,.flag,.gap{stroke-opacity:1}"
    ∷ codes ".gap{stroke-dasharray:2;pointer-events:none}.key{fill:#ffffff;stroke:#808080}.key text{fill:#000000;stroke:none}"
    ∷ []

abbrev pub chart_styles : Lines
chart_styles =
    ended (codes "<style>")
    ∷ ended (codes "text{font:12px DejaVu Sans Mono,Consolas,monospace}g text{text-anchor:middle;font-size:11px}")
    ∷ map look_style looks ++ map ended other_styles ++ ended (codes "</style>") ∷ []

-- how many of all faults are harmful, and what the worst of them costs
abbrev pub harm_text : ℕ → ℕ → ℕ → ℕ → List ℕ
harm_text harmful all most nodes =
    decimal harmful ++ codes " of " ++ decimal all
    ++ codes " faults are harmful; the most healthy nodes that one of them costs: "
    ++ decimal most ++ codes " of " ++ decimal nodes

-- that faults of a slot that is not shown are harmful too
abbrev pub hidden_text : Option ℕ → List ℕ
hidden_text None = []
hidden_text (Some t) = codes "; faults of slot " ++ decimal t ++ codes " are harmful too"

abbrev pub slots_shown_text : Size → List ℕ → Option ℕ → List ℕ
slots_shown_text size shown hidden =
    decimal size.nodes ++ codes " nodes, " ++ decimal size.slots ++ codes " slots, shown: "
    ++ decimal (length shown) ++ codes " of them, " ++ decimal (get_or shown 0 0)
    ++ codes " to " ++ decimal (get_or shown (length shown - 1) 0) ++ hidden_text hidden

-- what the test of the script says, and the slot that it names
abbrev pub test_meaning : Test → List ℕ
test_meaning (test.Keep k) = keep_meaning k
test_meaning (test.Back b) = back_meaning b

abbrev pub test_slot : Test → ℕ
test_slot (test.Keep k) = keep_slot k
test_slot (test.Back b) = back_slot b

abbrev pub test_name : Test → List ℕ
test_name (test.Keep k) = keep_name k
test_name (test.Back b) = back_name b

-- what came of the faults that these count, where `place` says whether the hypothesis covers them
abbrev pub counts_told : List ℕ → Counts → List ℕ
counts_told place counts =
    decimal counts.runs ++ codes " faults " ++ place ++ codes " the single-fault hypothesis: " ++ decimal counts.same
    ++ codes " changed nothing, " ++ decimal counts.hurt ++ codes " cost healthy nodes, " ++ decimal counts.split
    ++ codes " split them, " ++ decimal counts.torn ++ codes " left several memberships, " ++ decimal counts.dead
    ++ codes " left no two nodes together"

abbrev pub counted_lines : Counts → Counts → Lines
counted_lines kept broken =
    text_line [] 12 98 (counts_told (codes "within") kept)
    ∷ text_line [] 12 114 (counts_told (codes "outside") broken)
    ∷ []

-- what the script's own line says
abbrev pub own_lines : OwnShown → Lines
own_lines own =
    text_line [] 12 60 (title_element own.text ++ codes "without any of them: " ++ own.cost)
    ∷ text_line [] 12 78 (own.test_text ++ codes ": " ++ test_meaning own.test)
    ∷ []

abbrev pub chart_front : Size → ℕ → Lines
chart_front size height =
    chart_svg height ∷ chart_title size ∷ chart_styles
    ++ chart_ground height ∷ []

-- The names of the rows of the band that begins with column c, and of each band.
abbrev pub row_names_at : ℕ → ℕ → Lines
row_names_at n c =
    map (λ k. row_line (chart_y n c k + 13) (codes "node " ++ decimal k)) (below n)
    ++ row_line (chart_y n c n + 17) (codes "worst")
    ∷ row_line (chart_y n c n + 35) (codes "harmful")
    ∷ []

abbrev pub row_names : ℕ → ℕ → Lines
row_names n band = row_names_at n (columns n * band)

-- What all faults of each node come to, beside so many columns.

abbrev pub node_sum_lines : Size → ℕ → List FaultTold → ℕ → Lines
node_sum_lines size x faults k =
    sum_cell size (summed.OfNode k) [] (faults_told_of k faults) x (chart_y size.nodes 0 k)
    ∷ harmful_line (harmful_among size (faults_told_of k faults)) (x + 53) (chart_y size.nodes 0 k + 12)
    ∷ []

abbrev pub of_all_slots_lines : Size → ℕ → List FaultTold → Lines
of_all_slots_lines size many faults =
    let x = beside_x size.nodes many in
    text_line (class_of (codes "keep")) (x - 4) 143 (codes "of all slots:")
    ∷ text_line (class_of (codes "slot")) (x + 11) 155 (codes "worst")
    ∷ text_line (class_of (codes "slot")) (x + 53) 155 (codes "harmful")
    ∷ lines_below (node_sum_lines size x faults) size.nodes

-- The flag of the test, where its slot is shown.
abbrev pub test_flag : ℕ → Option ℕ → Test → Lines
test_flag n None own = []
test_flag n (Some c) own =
    pole (codes "flag") (chart_x n c - 1) (chart_y n c 0 - 26) (30 * n + 22)
    ∷ text_line (class_of (codes "keep")) (chart_x n c + 2) (chart_y n c 0 - 17) (test_name own)
    ∷ []

-- The whole.

-- how many of the worst faults are listed
abbrev pub many_listed : Size → List FaultTold → ℕ
many_listed size faults = min (harmful_among size faults) 10

-- the head of a chart of these slots, faults and counts
abbrev pub chart_head : Size → OwnShown → List ℕ → List FaultTold → Counts → Counts → Lines
chart_head size own shown faults kept broken =
    chart_front size (chart_height size.nodes (length shown) (many_listed size faults))
    ++ text_line (class_of (codes "said")) 12 20
    (harm_text (harmful_among size faults) (length faults) (most_lost size faults) size.nodes)
    ∷ text_line [] 12 40 (slots_shown_text size shown
    (first_told_slot (λ fault. does_harm size fault && is_hidden shown fault) faults))
    ∷ own_lines own ++ counted_lines kept broken

-- its columns, and what stands beside them
abbrev pub chart_body : Size → Test → List ℕ → List FaultTold → Lines
chart_body size own shown faults =
    lines_below (row_names size.nodes) (chart_bands size.nodes (length shown))
    ++ lines_below (column_lines size shown faults) (length shown)
    ++ of_all_slots_lines size (length shown) faults
    ++ test_flag size.nodes (place_in shown (test_slot own)) own

-- what stands below them
abbrev pub chart_end : Size → ℕ → List FaultTold → Lines
chart_end size many faults =
    worst_lines size (list_top size.nodes many) (harmful_among size faults) (ten_worst size faults)
    ++ key_and_table (key_top size.nodes many (many_listed size faults)) (all_counts size faults)
    ++ ended (codes "</svg>") ∷ []

abbrev pub chart_of : Size → OwnShown → List ℕ → List FaultTold → Counts → Counts → Lines
chart_of size own shown faults kept broken =
    chart_head size own shown faults kept broken
    ++ chart_body size own.test shown faults
    ++ chart_end size (length shown) faults

-- of the slots that were asked for, or else of those that are chosen
abbrev pub chart_lines : WholeCampaign → Option Span → Lines
chart_lines campaign asked =
    chart_of (size_of_campaign campaign) campaign.own (slots_shown campaign asked) campaign.faults
    (counts_sum (map (λ piece. piece.kept) campaign.pieces)) (counts_sum (map (λ piece. piece.broken) campaign.pieces))
