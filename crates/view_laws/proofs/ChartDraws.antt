-- The lines of a chart draw the marks of the faults of the slots shown, and nothing else.
use Rattle.std.proofs.Common.{◌≡◌, ℕ, zero, suc, ◌+◌, ◌-◌, ◌*◌, Bool, true, false, cond, ◌&&◌, List, [], ◌∷◌}
use Rattle.std.proofs.Common.{◌∙◌, ◌++◌, length, get_or, take, drop, refl, subst, Option, Some, None, codes, decimal}
use Rattle.std.specs.Prelude.{◌==◌, fold, insert}
use Rattle.std.specs.List.{AllByRecursion, flat_map}
use Rattle.std.proofs.lemmas.Bool.{cond_both}
use Rattle.std.proofs.lemmas.List.{append-nil}
use Rattle.ttp_base.specs.NodeSet.{below}
use Rattle.ttp_base.specs.Text.{Lines}
use Rattle.campaign.specs.declared.cost.Counts.{Counts}
use Rattle.whole_campaign.specs.declared.shown.Doing.{Doing}
use Rattle.whole_campaign.specs.declared.shown.Doing.TheVariants as doing
use Rattle.whole_campaign.specs.declared.shown.Test.{Test}
use Rattle.whole_campaign.specs.Faults.{first_place}
use Rattle.whole_campaign.specs.Own.{OwnShown}
use Rattle.whole_campaign.specs.Whole.{FaultTold}
use Rattle.picture_text.specs.Cells.{title_element, mark}
use Rattle.picture_text.specs.Picture.{class_of, ended, text_line, row_line}
use Rattle.picture_text.specs.Window.{columns}
use Rattle.view_laws.proofs.FromBelow.{Plain, parts, plain-append, plain-decimal}
use Rattle.view_laws.proofs.TitlesIn.{◌▸◌, tag, plain, number, title, named, IsLineWith}
use Rattle.view_laws.proofs.TitlesIn.{closed, line_of, place-adds, bare-lines}
use Rattle.view_laws.proofs.TitlesIn.{text-titles, classed-titles, mark-titles}
use Rattle.chart_text.specs.declared.look.Look.{Look}
use Rattle.chart_text.specs.declared.look.Look.TheVariants as look
use Rattle.chart_text.specs.declared.size.Size.{Size}
use Rattle.chart_text.specs.Chart.{of_all_slots_lines, chart_ground, chart_svg, chart_title}
use Rattle.chart_text.specs.Chart.{chart_styles, harm_text, many_listed, node_sum_lines}
use Rattle.chart_text.specs.Chart.{slots_shown_text, test_meaning, test_name, test_slot}
use Rattle.chart_text.specs.Chart.{counts_told, counted_lines, own_lines, chart_front, row_names, test_flag, chart_head}
use Rattle.chart_text.specs.Chart.{chart_body, chart_end, chart_of}
use Rattle.chart_text.specs.Column.{shown_before, is_gap, has_number, number_line, gap_line, faults_told_in, mark_of}
use Rattle.chart_text.specs.Column.{block_of, block_lines, is_plain, mark_lines, slot_sum_lines, column_lines}
use Rattle.chart_text.specs.Columns.{first_told_slot, is_hidden, place_in, chart_bands, list_top, key_top, chart_height}
use Rattle.chart_text.specs.Columns.{chart_x, chart_y, beside_x}
use Rattle.chart_text.specs.Elements.{wide_cell, look_cell, fault_shape, pole}
use Rattle.chart_text.specs.Key.{how_to_read, words_meant, key_x, key_y, key_said}
use Rattle.chart_text.specs.Key.{key_square, key_lines, look_x, look_y}
use Rattle.chart_text.specs.Key.{look_entry, all_counts, many_class, count_line, kind_number}
use Rattle.chart_text.specs.Key.{kind_lines, many_places, part_lines}
use Rattle.chart_text.specs.Looks.{fault_look, does_harm, looks, look_text, look_letter}
use Rattle.chart_text.specs.Looks.{look_meaning, doing_word, kind_said}
use Rattle.chart_text.specs.Looks.{marks_left, marks_above}
use Rattle.chart_text.specs.Sums.{faults_told_of, harmful_among, harmful_line, look_counts}
use Rattle.chart_text.specs.Sums.{many_shown, sends_class, sum_cell}
use Rattle.chart_text.specs.Sums.{sum_told, worst_class, worst_shown}
use Rattle.chart_text.specs.Worst.{fault_in_line, list_lines, list_title, listed_lines, lost_said, most_lost, place_for}
use Rattle.chart_text.specs.Worst.{ten_with, ten_worst, worst_lines, worst_of}
use Rattle.chart_text.specs.declared.sum.Summed.{Summed}
use Rattle.chart_text.specs.declared.sum.Summed.TheVariants as summed
use Rattle.ttp_world.proofs.LineLists.{each-append}
use Rattle.view_laws.specs.Marks.{is_mark}
use Rattle.view_laws.proofs.Draws.{Draws, nothing, ◌◃◌, untitled-line, titled-line, mark-line, map-draws}
use Rattle.view_laws.proofs.Draws.{flat-nothing, flat-draws, if-draws}
use Rattle.view_laws.proofs.PlainWords.{plain-look, plain-look_letter, plain-look_meaning, plain-worst_class}
use Rattle.view_laws.proofs.PlainWords.{plain-worst_shown, plain-sends, plain-sum}
use Rattle.view_laws.proofs.PlainWords.{plain-many_shown, plain-fault, plain-lost}
use Rattle.view_laws.proofs.PlainWords.{plain-list_title, plain-doing, plain-kind, plain-key, plain-many, plain-harm}
use Rattle.view_laws.proofs.PlainWords.{plain-shown_slots, plain-test, plain-test_name, plain-counts}

-- Elements.

text-draws : (x y : ℕ) (shown : List ℕ) → Plain shown → Draws (text_line [] x y shown ∷ []) []
text-draws x y shown is = untitled-line (text_line [] x y shown) (text-titles [] x y shown refl is)

classed-draws : (class : List ℕ) (x y : ℕ) (shown : List ℕ) → Plain class → Plain shown
    → Draws (text_line (class_of class) x y shown ∷ []) []
classed-draws class x y shown c s =
    untitled-line (text_line (class_of class) x y shown) (classed-titles class x y shown c s)

wide-titles : (class : List ℕ) (x y : ℕ) (name shown : List ℕ) → Plain class → Plain name → Plain shown
    → IsLineWith (wide_cell class x y name shown) (name ∷ [])
wide-titles class x y name shown c n s =
    let all =
    named (tag (codes "<g class=\"") (λ rest. refl) refl ▸ plain class c) (plain (codes "\">") refl) name n
    (tag (codes "<rect") (λ rest. refl) refl)
    ▸ place-adds x y ▸ tag (codes " width=\"22\" height=\"15\"/><text")
    (λ rest. refl) refl ▸ place-adds (x + 11) (y + 12)
    ▸ tag (codes ">") (λ rest. refl) refl ▸ plain shown s in
    closed all (codes "</text></g>\n") refl refl

wide-draws : (class : List ℕ) (x y : ℕ) (name shown : List ℕ) → Plain class → Plain name → Plain shown
    → Draws (wide_cell class x y name shown ∷ []) []
wide-draws class x y name shown c n s =
    titled-line (wide_cell class x y name shown) name (wide-titles class x y name shown c n s) refl n

look-draws : (l : Look) (x y : ℕ) → Draws (look_cell l x y ∷ []) []
look-draws l x y = wide-draws (look_text l) x y (look_text l) (look_letter l)
    (plain-look l) (plain-look l) (plain-look_letter l)

pole-draws : (class : List ℕ) (x y height : ℕ) → Plain class → Draws (pole class x y height ∷ []) []
pole-draws class x y height c =
    let all =
    tag (codes "<path class=\"") (λ rest. refl) refl ▸ plain class c ▸ plain (codes "\" d=\"M") refl ▸ number x
    ▸ plain (codes " ") refl ▸ number y ▸ plain (codes "v") refl ▸ number height in
    untitled-line (pole class x y height) (closed all (codes "\"/>\n") refl refl)

look-mark : (l : Look) (x y : ℕ) (name : List ℕ) → is_mark (mark (look_text l) fault_shape x y name) ≡ true
look-mark look.Same x y name = refl
look-mark l x y name = refl

mark-draws : (n c : ℕ) (l : Look) (fault : FaultTold) → Plain fault.text
    → Draws (mark_of n c l fault ∷ []) (fault.text ∷ [])
mark-draws n c l fault is =
    let x = chart_x n c + 3 * marks_left fault.shown.place in
    let y = chart_y n c fault.shown.node + 17 + 5 * marks_above fault.shown.place in
    mark-line (mark_of n c l fault) fault.text
    (mark-titles (look_text l) fault_shape x y fault.text (plain-look l) refl is) (look-mark l x y fault.text) is

-- the cell of faults, and how many are harmful
sum-draws : (size : Size) (name : Summed) (also : List ℕ) (faults : List FaultTold) (x y : ℕ) → Plain also
    → Draws (sum_cell size name also faults x y ∷ []) []
sum-draws size name also faults x y is =
    let worst = worst_of size faults in
    wide-draws (worst_class size worst ++ also) x y (sum_told name (length faults) (look_counts size faults))
    (worst_shown size worst)
    (plain-append (worst_class size worst) also (plain-worst_class size worst) is)
    (plain-sum name (length faults) (look_counts size faults)) (plain-worst_shown size worst)

harmful-draws : (many x y : ℕ) → Draws (harmful_line many x y ∷ []) []
harmful-draws many x y = classed-draws (codes "slot") x y (many_shown many) refl (plain-many_shown many)

-- The head.

svg-draws : (h : ℕ) → Draws (chart_svg h ∷ []) []
svg-draws h =
    let all =
    tag (codes "<svg xmlns=\"http://www.w3.org/2000/svg\" width=\"1320\" height=\"") (λ rest. refl) refl ▸ number h
    ▸ plain (codes "\" viewBox=\"0 0 1320 ") refl ▸ number h in
    untitled-line (chart_svg h) (closed all (codes "\">\n") refl refl)

title-draws : (size : Size) → Draws (chart_title size ∷ []) []
title-draws size =
    let name = codes "ttplab campaign 1 nodes " ++ decimal size.nodes ++ codes " slots " ++ decimal size.slots in
    let is : Plain name = simp parts in
    let all = title name is in
    titled-line (chart_title size) name (line_of all) refl is

bare-draws : (lines : Lines) → AllByRecursion (λ text. IsLineWith text []) lines → Draws lines []
bare-draws [] are = nothing
bare-draws (text ∷ lines) are = untitled-line text are.0 ◃ bare-draws lines are.1

styles-draws : Draws chart_styles []
styles-draws = bare-draws chart_styles (bare-lines chart_styles refl refl)

front-draws : (size : Size) (h : ℕ) → Draws (chart_front size h) []
front-draws size h =
    let all = tag (codes "<rect width=\"1320\" height=\"") (λ rest. refl) refl ▸ number h in
    svg-draws h ◃ title-draws size ◃ styles-draws
    ◃ untitled-line (chart_ground h) (closed all (codes "\" fill=\"#ffffff\"/>\n") refl refl)

-- the script's own line can be drawn
pub record IsOwnPlain (own : OwnShown) : Type 0 where
  pub text : Plain own.text
  pub test_text : Plain own.test_text
  pub cost : Plain own.cost

own-draws : (own : OwnShown) → IsOwnPlain own → Draws (own_lines own) []
own-draws own is =
    let said = codes "without any of them: " ++ own.cost in
    let line = text_line [] 12 60 (title_element own.text ++ codes "without any of them: " ++ own.cost) in
    let shown : Plain said = plain-append (codes "without any of them: ") own.cost refl is.cost in
    let all =
    tag (codes "<text") (λ rest. refl) refl ▸ place-adds 12 60 ▸ tag (codes ">") (λ rest. refl) refl
    ▸ (title own.text is.text ▸ tag (codes "without any of them: ") (λ rest. refl) refl ▸ plain own.cost is.cost) in
    titled-line line own.text (closed all (codes "</text>\n") refl refl) refl is.text
    ◃ text-draws 12 78 (own.test_text ++ codes ": " ++ test_meaning own.test)
    (plain-append (own.test_text ++ codes ": ") (test_meaning own.test)
    (plain-append own.test_text (codes ": ") is.test_text refl) (plain-test own.test))

counted-draws : (kept broken : Counts) → Draws (counted_lines kept broken) []
counted-draws kept broken =
    text-draws 12 98 (counts_told (codes "within") kept) (plain-counts (codes "within") kept refl)
    ◃ text-draws 12 114 (counts_told (codes "outside") broken) (plain-counts (codes "outside") broken refl)

head-draws : (size : Size) (own : OwnShown) (shown : List ℕ) (faults : List FaultTold) (kept broken : Counts)
    → IsOwnPlain own → Draws (chart_head size own shown faults kept broken) []
head-draws size own shown faults kept broken is =
    let hidden = first_told_slot (λ fault. does_harm size fault && is_hidden shown fault) faults in
    let harmful = harmful_among size faults in
    front-draws size (chart_height size.nodes (length shown) (many_listed size faults))
    ◃ (classed-draws (codes "said") 12 20 (harm_text harmful (length faults) (most_lost size faults) size.nodes) refl
    (plain-harm harmful (length faults) (most_lost size faults) size.nodes)
    ◃ text-draws 12 40 (slots_shown_text size shown hidden) (plain-shown_slots size shown hidden)
    ◃ own-draws own is) ◃ counted-draws kept broken

-- Columns.

number-draws : (n c : ℕ) (before : Option ℕ) (t : ℕ) → Draws (number_line n c before t ++ gap_line n c before t) []
number-draws n c before t =
    if-draws (has_number before t)
    (text_line (class_of (codes "slot")) (chart_x n c + 11) (chart_y n c 0 - 5) (decimal t) ∷ []) [] []
    (classed-draws (codes "slot") (chart_x n c + 11) (chart_y n c 0 - 5) (decimal t) refl (plain-decimal t)) nothing
    ◃ if-draws (is_gap before t) (pole (codes "gap") (chart_x n c - 1) (chart_y n c 0) (30 * n - 4) ∷ []) [] []
    (pole-draws (codes "gap") (chart_x n c - 1) (chart_y n c 0) (30 * n - 4) refl) nothing

-- the cells of nodes
block-draws : (size : Size) (c t k : ℕ) (these : List FaultTold) → Draws (block_of size c t k these) []
block-draws size c t k [] = nothing
block-draws size c t k (fault ∷ faults) =
    sum-draws size (summed.OfCell t k) (sends_class (Some fault.shown.doing)) (fault ∷ faults) (chart_x size.nodes c)
    (chart_y size.nodes c k) (plain-sends (Some fault.shown.doing))

-- the mark of a fault, where it is drawn
abbrev pub marks_of : Size → FaultTold → Lines
marks_of size fault = cond (is_plain (fault_look size fault.shown)) [] (fault.text ∷ [])

mark-if : (n c : ℕ) (l : Look) (fault : FaultTold) (b : Bool) → Plain fault.text
    → Draws (cond b [] (mark_of n c l fault ∷ [])) (cond b [] (fault.text ∷ []))
mark-if n c l fault true is = nothing
mark-if n c l fault false is = mark-draws n c l fault is

fault-draws : (size : Size) (c : ℕ) (fault : FaultTold) → Plain fault.text
    → Draws (mark_lines size c fault) (marks_of size fault)
fault-draws size c fault is =
    let l = fault_look size fault.shown in mark-if size.nodes c l fault (is_plain l) is

abbrev pub ArePlain : List FaultTold → Type 0
ArePlain faults = AllByRecursion (λ fault. Plain fault.text) faults

faults-draw : (size : Size) (c : ℕ) (faults : List FaultTold) → ArePlain faults
    → Draws (flat_map (mark_lines size c) faults) (flat_map (marks_of size) faults)
faults-draw size c [] are = nothing
faults-draw size c (fault ∷ faults) are = fault-draws size c fault are.0 ◃ faults-draw size c faults are.1

end-draws : (size : Size) (c t : ℕ) (faults : List FaultTold) → Draws (slot_sum_lines size c t faults) []
end-draws size c t faults =
    sum-draws size (summed.OfSlot t) [] faults (chart_x size.nodes c) (chart_y size.nodes c size.nodes + 5) refl
    ◃ harmful-draws (harmful_among size faults) (chart_x size.nodes c + 11) (chart_y size.nodes c size.nodes + 35)

-- All faults of a slot are plain, where those of the whole list are.
plain-in_slot : (t : ℕ) (faults : List FaultTold) → ArePlain faults → ArePlain (faults_told_in t faults)
plain-in_slot t [] are = tt
plain-in_slot t (fault ∷ faults) are =
    let others = plain-in_slot t faults are.1 in
    cond_both (fault.shown.slot == t) (fault ∷ faults_told_in t faults)
    (faults_told_in t faults) ArePlain (λ here. (are.0, others))
    (λ there. others)

same-marks : (lines a b : Lines) → a ≡ b → Draws lines a → Draws lines b
same-marks lines a b same draws = subst (Draws lines) same draws

column-draws : (size : Size) (shown : List ℕ) (faults : List FaultTold) (c : ℕ) → ArePlain faults
    → Draws (column_lines size shown faults c) (flat_map (marks_of size) (faults_told_in (get_or shown c 0) faults))
column-draws size shown faults c are =
    let t = get_or shown c 0 in
    let here = faults_told_in t faults in
    let marks = flat_map (marks_of size) here in
    same-marks (column_lines size shown faults c) (marks ++ []) marks (append-nil marks)
    (number-draws size.nodes c (shown_before shown c) t
    ◃ flat-nothing (block_lines size c t here) (below size.nodes) (λ k. block-draws size c t k (faults_told_of k here))
    ◃ faults-draw size c here (plain-in_slot t faults are)
    ◃ end-draws size c t here)

-- The body.

rows-draw : (n band : ℕ) → Draws (row_names n band) []
rows-draw n band =
    let c = columns n * band in
    map-draws (λ k. row_line (chart_y n c k + 13) (codes "node " ++ decimal k)) (below n)
    (λ k. classed-draws (codes "row") 64 (chart_y n c k + 13) (codes "node " ++ decimal k) refl (simp parts))
    ◃ (classed-draws (codes "row") 64 (chart_y n c n + 17) (codes "worst") refl refl
    ◃ classed-draws (codes "row") 64 (chart_y n c n + 35) (codes "harmful") refl refl)

flag-draws : (n : ℕ) (place : Option ℕ) (own : Test) → Draws (test_flag n place own) []
flag-draws n None own = nothing
flag-draws n (Some c) own =
    pole-draws (codes "flag") (chart_x n c - 1) (chart_y n c 0 - 26) (30 * n + 22) refl
    ◃ classed-draws (codes "keep") (chart_x n c + 2) (chart_y n c 0 - 17) (test_name own) refl (plain-test_name own)

beside-draws : (size : Size) (many : ℕ) (faults : List FaultTold) → Draws (of_all_slots_lines size many faults) []
beside-draws size many faults =
    let x = beside_x size.nodes many in
    classed-draws (codes "keep") (x - 4) 143 (codes "of all slots:") refl refl
    ◃ classed-draws (codes "slot") (x + 11) 155 (codes "worst") refl refl
    ◃ classed-draws (codes "slot") (x + 53) 155 (codes "harmful") refl refl
    ◃ flat-nothing (node_sum_lines size x faults) (below size.nodes)
    (λ k. sum-draws size (summed.OfNode k) [] (faults_told_of k faults) x (chart_y size.nodes 0 k) refl
    ◃ harmful-draws (harmful_among size (faults_told_of k faults)) (x + 53) (chart_y size.nodes 0 k + 12))

-- of each slot shown
abbrev pub marks_in : Size → List FaultTold → ℕ → Lines
marks_in size faults t = flat_map (marks_of size) (faults_told_in t faults)

body-draws : (size : Size) (own : Test) (shown : List ℕ) (faults : List FaultTold) → ArePlain faults
    → Draws (chart_body size own shown faults)
    (flat_map (λ c. marks_in size faults (get_or shown c 0)) (below (length shown)))
body-draws size own shown faults are =
    let marks = flat_map (λ c. marks_in size faults (get_or shown c 0)) (below (length shown)) in
    same-marks (chart_body size own shown faults) (marks ++ [] ++ []) marks
    (append-nil (marks ++ []) ∙ append-nil marks)
    (flat-nothing (row_names size.nodes) (below (chart_bands size.nodes (length shown))) (rows-draw size.nodes)
    ◃ flat-draws (column_lines size shown faults) (λ c. marks_in size faults (get_or shown c 0)) (below (length shown))
    (λ c. column-draws size shown faults c are)
    ◃ beside-draws size (length shown) faults
    ◃ flag-draws size.nodes (place_in shown (test_slot own)) own)

-- What stands below.

key_square-draws : (top p : ℕ) → Draws (key_square top p ∷ []) []
key_square-draws top p =
    let all =
    tag (codes "<g class=\"key\"><rect") (λ rest. refl) refl ▸ place-adds (key_x p) (key_y top p)
    ▸ tag (codes " width=\"82\" height=\"20\"/><text") (λ rest. refl) refl ▸
    place-adds (key_x p + 41) (key_y top p + 14)
    ▸ tag (codes ">") (λ rest. refl) refl ▸ plain (key_said p) (plain-key p) in
    untitled-line (key_square top p) (closed all (codes "</text></g>\n") refl refl)

how-draws : (top : ℕ) → Draws (how_to_read top) []
how-draws top =
    classed-draws (codes "said") 12 (top + 8) (codes "how to read it") refl refl
    ◃ text-draws 12 (top + 28) _ refl ◃ text-draws 12 (top + 44) _ refl
    ◃ text-draws 12 (top + 60) _ refl ◃ text-draws 12 (top + 76) _ refl

meant-draws : (top : ℕ) → Draws (words_meant top) []
meant-draws top =
    text-draws 12 (top + 152) _ refl ◃ text-draws 12 (top + 168) _ refl
    ◃ text-draws 12 (top + 184) _ refl ◃ text-draws 12 (top + 200) _ refl

key-draws : (top : ℕ) → Draws (key_lines top) []
key-draws top =
    map-draws (key_square top) (below 16) (key_square-draws top)
    ◃ (classed-draws (codes "row") 124 (top + 104) (codes "this slot alone") refl refl
    ◃ classed-draws (codes "row") 124 (top + 124) (codes "to the end") refl refl)

entry-draws : (top i : ℕ) → Draws (look_entry top i) []
entry-draws top i =
    let l = get_or looks i look.Same in
    look-draws l (look_x i) (look_y top i)
    ◃ text-draws (look_x i + 32) (look_y top i + 12) (look_meaning l) (plain-look_meaning l)

kinds-draw : (counts : List ℕ) (d : Doing) (x y p : ℕ) → Draws (kind_lines counts d x y p) []
kinds-draw counts d x y p =
    text-draws x y (kind_said p) (plain-kind p)
    ◃ map-draws (count_line counts x y (kind_number d p)) (below (length looks))
    (λ i. let many = get_or counts (length looks * kind_number d p + i) 0 in
    classed-draws (many_class many) (x + 152 + 30 * i) y (decimal many) (plain-many many) (plain-decimal many))

part-draws : (counts : List ℕ) (top x : ℕ) (d : Doing) → Draws (part_lines counts top x d) []
part-draws counts top x d =
    classed-draws (codes "said") x (top + 341) (doing_word d) refl (plain-doing d)
    ◃ map-draws (λ i. look_cell (get_or looks i look.Same) (x + 133 + 30 * i) (top + 330)) (below (length looks))
    (λ i. look-draws (get_or looks i look.Same) (x + 133 + 30 * i) (top + 330))
    ◃ flat-nothing (λ j. kind_lines counts d x (top + 359 + 14 * j) (first_place d + j)) (below (many_places d))
    (λ j. kinds-draw counts d x (top + 359 + 14 * j) (first_place d + j))

-- The worst.

listed-draws : (size : Size) (y : ℕ) (fault : FaultTold) → Plain fault.text → Draws (listed_lines size y fault) []
listed-draws size y fault is =
    let name = look_text (fault_look size fault.shown) in
    let look_plain = plain-look (fault_look size fault.shown) in
    wide-draws name 12 y name (decimal fault.shown.hurt) look_plain look_plain (plain-decimal fault.shown.hurt)
    ◃ text-draws 44 (y + 12) (fault_in_line fault.text) (plain-fault fault.text is)
    ◃ text-draws 300 (y + 12) (lost_said size fault) (plain-lost size fault is)

list-draws : (size : Size) (y : ℕ) (worst : List FaultTold) → ArePlain worst → Draws (list_lines size y worst) []
list-draws size y [] are = nothing
list-draws size y (fault ∷ worst) are = listed-draws size y fault are.0 ◃ list-draws size (y + 20) worst are.1

-- the ten worst of plain faults are plain
plain-some : (n : ℕ) (faults : List FaultTold) → ArePlain faults → ArePlain (take n faults)
plain-some zero faults are = tt
plain-some (suc n) [] are = tt
plain-some (suc n) (fault ∷ faults) are = (are.0, plain-some n faults are.1)

plain-rest : (n : ℕ) (faults : List FaultTold) → ArePlain faults → ArePlain (drop n faults)
plain-rest zero faults are = are
plain-rest (suc n) [] are = tt
plain-rest (suc n) (fault ∷ faults) are = plain-rest n faults are.1

plain-ten : (size : Size) (worst faults : List FaultTold) → ArePlain worst → ArePlain faults
    → ArePlain (fold (ten_with size) worst faults)
plain-ten size worst [] are rest = are
plain-ten size worst (fault ∷ faults) are rest =
    let i = place_for size fault.shown worst in
    plain-ten size (ten_with size worst fault) faults
    (cond_both (does_harm size fault.shown) (take 10 (insert worst i fault)) worst ArePlain
    (λ harm. plain-some 10 (insert worst i fault)
    (each-append (λ f. Plain f.text) (take i worst) (fault ∷ drop i worst) (plain-some i worst are)
    (rest.0, plain-rest i worst are)))
    (λ none. are)) rest.1

worst-draws : (size : Size) (top : ℕ) (faults : List FaultTold) → ArePlain faults
    → Draws (worst_lines size top (harmful_among size faults) (ten_worst size faults)) []
worst-draws size top faults are =
    classed-draws (codes "said") 12 (top + 8) (list_title (harmful_among size faults)) refl
    (plain-list_title (harmful_among size faults))
    ◃ list-draws size (top + 20) (ten_worst size faults) (plain-ten size [] faults tt are)

below-draws : (size : Size) (many : ℕ) (faults : List FaultTold)
    → ArePlain faults → Draws (chart_end size many faults) []
below-draws size many faults are =
    let top = key_top size.nodes many (many_listed size faults) in
    let counts = all_counts size faults in
    worst-draws size (list_top size.nodes many) faults are
    ◃ (how-draws top ◃ key-draws top ◃ meant-draws top
    ◃ flat-nothing (look_entry top) (below (length looks)) (entry-draws top)
    ◃ (part-draws counts top 12 doing.Send ◃ part-draws counts top 442 doing.Receive
    ◃ part-draws counts top 872 doing.Jump))
    ◃ untitled-line (ended (codes "</svg>")) (record { titled = refl; one = refl })

-- The whole.

pub chart-draws : (size : Size) (own : OwnShown) (shown : List ℕ) (faults : List FaultTold) (kept broken : Counts)
    → IsOwnPlain own → ArePlain faults
    → Draws (chart_of size own shown faults kept broken)
    (flat_map (λ c. marks_in size faults (get_or shown c 0)) (below (length shown)))
chart-draws size own shown faults kept broken is are =
    let marks = flat_map (λ c. marks_in size faults (get_or shown c 0)) (below (length shown)) in
    same-marks (chart_of size own shown faults kept broken) (marks ++ []) marks (append-nil marks)
    (head-draws size own shown faults kept broken is ◃ body-draws size own.test shown faults are
    ◃ below-draws size (length shown) faults are)
