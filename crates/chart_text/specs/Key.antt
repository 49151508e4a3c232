-- How to read a chart: its key, its legend, and the table of what came of each kind of fault.
use Rattle.std.specs.Prelude.{ℕ, ◌+◌, ◌*◌, ◌/◌, ◌%◌, ◌==◌, nat_lt, if◌then◌else◌}
use Rattle.std.specs.Prelude.{List, [], ◌∷◌, ◌++◌, length, get_or, map, codes, decimal}
use Rattle.ttp_base.specs.NodeSet.{below}
use Rattle.ttp_base.specs.Text.{Lines, lines_below}
use Rattle.whole_campaign.specs.declared.shown.Doing.{Doing}
use Rattle.whole_campaign.specs.declared.shown.Doing.TheVariants as doing
use Rattle.whole_campaign.specs.declared.shown.FaultShown.{FaultShown}
use Rattle.whole_campaign.specs.Faults.{first_place}
use Rattle.whole_campaign.specs.Whole.{FaultTold}
use Rattle.picture_text.specs.Cells.{place_attributes}
use Rattle.picture_text.specs.Picture.{class_of, text_line}
use Rattle.chart_text.specs.declared.look.Look.TheVariants as look
use Rattle.chart_text.specs.declared.size.Size.{Size}
use Rattle.chart_text.specs.Sums.{counts_by}
use Rattle.chart_text.specs.Elements.{look_cell}
use Rattle.chart_text.specs.Looks.{fault_look, looks, look_number, look_meaning, doing_word, kind_said, jump_said}
use Rattle.chart_text.specs.Looks.{channels_said, loss_said, marks_left, marks_above}

-- How to read it: texts, and where the mark of each kind of fault stands. All is placed below the upper edge, `top`.

abbrev pub how_to_read : ℕ → Lines
how_to_read top =
    text_line (class_of (codes "said")) 12 (top + 8) (codes "how to read it")
    ∷ text_line [] 12 (top + 28)
    (codes "A cell is a node in a slot: up to sixteen faults that begin there, each tried in a run of its own. Its colour says what the worst of them does, its number how")
    ∷ text_line [] 12 (top + 44)
    (codes "many healthy nodes that one costs. A blue frame: the node sends in this slot. Below a cell stands a mark for each fault that changed something; the pointer over")
    ∷ text_line [] 12 (top + 60)
    (codes "it shows its line. harmful: hurt, split, torn or dead. healthy: not faulty by the rules of the hypothesis; it may be the fault's own node. worst: dead before")
    ∷ text_line [] 12 (top + 76) (codes "torn, split and hurt, and then by the number of healthy nodes lost.")
    ∷ []

abbrev pub words_meant : ℕ → Lines
words_meant top =
    text_line [] 12 (top + 152)
    (codes "silence: a frame is lost. noise: it comes spoilt. AB, A, B: on both channels, or on one. If the node sends in the slot, for all; otherwise for this node alone.")
    ∷ text_line [] 12 (top + 168)
    (codes "jump: the clock of the node jumps ahead, or back (-). W: the window of the list; a frame that is further from its receiver's clock is not taken.")
    ∷ text_line [] 12 (top + 184)
    (codes "without any of them: left: who left, as NODE:SLOT:WHY; hurt: the healthy ones of them; split: first and last slot in which healthy nodes held different members;")
    ∷ text_line [] 12 (top + 200)
    (codes "end: the memberships at the end, each as a number in base 16, in which bit k is node k.")
    ∷ []

-- the left edge of the square of a place, and its upper one
abbrev pub key_x : ℕ → ℕ
key_x p = 132 + 82 * marks_left p + (if nat_lt 5 (marks_left p) then 8 else 0)

abbrev pub key_y : ℕ → ℕ → ℕ
key_y top p = top + 90 + 20 * marks_above p

abbrev pub key_said : ℕ → List ℕ
key_said p = if nat_lt p 12 then channels_said p ++ codes " " ++ loss_said p else codes "jump " ++ jump_said p

abbrev pub key_square : ℕ → ℕ → List ℕ
key_square top p =
    codes "<g class=\"key\"><rect" ++ place_attributes (key_x p) (key_y top p)
    ++ codes " width=\"82\" height=\"20\"/><text" ++ place_attributes (key_x p + 41) (key_y top p + 14) ++ codes ">"
    ++ key_said p ++ codes "</text></g>\n"

abbrev pub key_row : ℕ → List ℕ → List ℕ
key_row y name = text_line (class_of (codes "row")) 124 y name

abbrev pub key_lines : ℕ → Lines
key_lines top =
    map (key_square top) (below 16)
    ++ key_row (top + 104) (codes "this slot alone") ∷ key_row (top + 124) (codes "to the end") ∷ []

-- The legend.

abbrev pub look_x : ℕ → ℕ
look_x i = 12 + 560 * (i / 5)

abbrev pub look_y : ℕ → ℕ → ℕ
look_y top i = top + 214 + 20 * (i % 5)

-- look number i of the table
abbrev pub look_entry : ℕ → ℕ → Lines
look_entry top i =
    look_cell (get_or looks i look.Same) (look_x i) (look_y top i)
    ∷ text_line [] (look_x i + 32) (look_y top i + 12) (look_meaning (get_or looks i look.Same))
    ∷ []

abbrev pub look_legend : ℕ → Lines
look_legend top = lines_below (look_entry top) (length looks)

-- The table of counts.

-- the kinds of faults are numbered: those of `send`, of `receive`, and of `jump`, each by its place
abbrev pub kind_number : Doing → ℕ → ℕ
kind_number doing.Send p = p
kind_number doing.Receive p = 12 + p
kind_number doing.Jump p = 12 + p

-- the number of a line of this kind and look among all of them, which is where it is counted
abbrev pub counter_of : Size → FaultShown → ℕ
counter_of size fault =
    length looks * kind_number fault.doing fault.place + look_number (fault_look size fault)

-- 28 kinds, each with all looks
abbrev pub all_counts : Size → List FaultTold → List ℕ
all_counts size faults = counts_by (λ fault. counter_of size fault.shown) (28 * length looks) faults

abbrev pub many_class : ℕ → List ℕ
many_class many = if many == 0 then codes "zero" else codes "many"

-- how many lines of this kind have look number i, in the table's part that begins at x
abbrev pub count_line : List ℕ → ℕ → ℕ → ℕ → ℕ → List ℕ
count_line counts x y kind i =
    let many = get_or counts (length looks * kind + i) 0 in
    text_line (class_of (many_class many)) (x + 152 + 30 * i) y (decimal many)

abbrev pub kind_lines : List ℕ → Doing → ℕ → ℕ → ℕ → Lines
kind_lines counts doing x y p =
    text_line [] x y (kind_said p)
    ∷ map (count_line counts x y (kind_number doing p)) (below (length looks))

-- how many places a word has
abbrev pub many_places : Doing → ℕ
many_places doing.Send = 12
many_places doing.Receive = 12
many_places doing.Jump = 4

-- the part of a word
abbrev pub part_lines : List ℕ → ℕ → ℕ → Doing → Lines
part_lines counts top x doing =
    text_line (class_of (codes "said")) x (top + 341) (doing_word doing)
    ∷ map (λ i. look_cell (get_or looks i look.Same) (x + 133 + 30 * i) (top + 330)) (below (length looks))
    ++ lines_below (λ j. kind_lines counts doing x (top + 359 + 14 * j) (first_place doing + j)) (many_places doing)

abbrev pub table_lines : List ℕ → ℕ → Lines
table_lines counts top =
    part_lines counts top 12 doing.Send ++ part_lines counts top 442 doing.Receive
    ++ part_lines counts top 872 doing.Jump

abbrev pub key_and_table : ℕ → List ℕ → Lines
key_and_table top counts =
    how_to_read top ++ key_lines top ++ words_meant top ++ look_legend top ++ table_lines counts top
