-- The column of a slot: its number, a cell for each node, the marks of its faults, and what it comes to.
use Rattle.std.specs.Prelude.{ℕ, ◌+◌, ◌-◌, ◌*◌, ◌%◌, ◌==◌, Bool, true, false, ◌||◌, not, if◌then◌else◌}
use Rattle.std.specs.Prelude.{List, [], ◌∷◌, ◌++◌, get_or, filter, flat_map, Option, Some, None, codes, decimal}
use Rattle.ttp_base.specs.Text.{Lines, lines_below}
use Rattle.whole_campaign.specs.Whole.{FaultTold}
use Rattle.picture_text.specs.Cells.{mark}
use Rattle.picture_text.specs.Picture.{class_of, text_line}
use Rattle.chart_text.specs.declared.look.Look.{Look}
use Rattle.chart_text.specs.declared.look.Look.TheVariants as look
use Rattle.chart_text.specs.declared.size.Size.{Size}
use Rattle.chart_text.specs.declared.sum.Summed.TheVariants as summed
use Rattle.chart_text.specs.Columns.{chart_x, chart_y}
use Rattle.chart_text.specs.Elements.{fault_shape, pole}
use Rattle.chart_text.specs.Looks.{fault_look, look_text, marks_left, marks_above}
use Rattle.chart_text.specs.Sums.{faults_told_of, sends_class, sum_cell, harmful_among, harmful_line}

-- The number of a slot.

-- the slot of the column before column c, if there is one
abbrev pub shown_before : List ℕ → ℕ → Option ℕ
shown_before shown c = if c == 0 then None else Some (get_or shown (c - 1) 0)

-- whether slots are left out before slot t
abbrev pub is_gap : Option ℕ → ℕ → Bool
is_gap None t = false
is_gap (Some before) t = not (before + 1 == t)

abbrev pub has_number : Option ℕ → ℕ → Bool
has_number None t = true
has_number (Some before) t = (t % 5 == 0) || not (before + 1 == t)

abbrev pub number_line : ℕ → ℕ → Option ℕ → ℕ → Lines
number_line n c before t =
    if has_number before t
    then text_line (class_of (codes "slot")) (chart_x n c + 11) (chart_y n c 0 - 5) (decimal t) ∷ []
    else []

abbrev pub gap_line : ℕ → ℕ → Option ℕ → ℕ → Lines
gap_line n c before t =
    if is_gap before t then pole (codes "gap") (chart_x n c - 1) (chart_y n c 0) (30 * n - 4) ∷ [] else []

-- The lines of a slot.

abbrev pub faults_told_in : ℕ → List FaultTold → List FaultTold
faults_told_in t faults = filter (λ fault. fault.shown.slot == t) faults

-- the cell of node k, of which the slot has these lines; there is none where it has none
abbrev pub block_of : Size → ℕ → ℕ → ℕ → List FaultTold → Lines
block_of size c t k [] = []
block_of size c t k (fault ∷ faults) =
    sum_cell size (summed.OfCell t k) (sends_class (Some fault.shown.doing)) (fault ∷ faults) (chart_x size.nodes c)
    (chart_y size.nodes c k)
    ∷ []

abbrev pub block_lines : Size → ℕ → ℕ → List FaultTold → ℕ → Lines
block_lines size c t faults k = block_of size c t k (faults_told_of k faults)

-- the mark of a fault, with its line of the campaign
abbrev pub mark_of : ℕ → ℕ → Look → FaultTold → List ℕ
mark_of n c shade fault =
    mark (look_text shade) fault_shape (chart_x n c + 3 * marks_left fault.shown.place)
    (chart_y n c fault.shown.node + 17 + 5 * marks_above fault.shown.place) fault.text

abbrev pub is_plain : Look → Bool
is_plain look.Same = true
is_plain _ = false

abbrev pub mark_lines : Size → ℕ → FaultTold → Lines
mark_lines size c fault =
    if is_plain (fault_look size fault.shown) then [] else mark_of size.nodes c (fault_look size fault.shown) fault ∷ []

-- what all lines of the slot come to
abbrev pub slot_sum_lines : Size → ℕ → ℕ → List FaultTold → Lines
slot_sum_lines size c t faults =
    sum_cell size (summed.OfSlot t) [] faults (chart_x size.nodes c) (chart_y size.nodes c size.nodes + 5)
    ∷ harmful_line (harmful_among size faults) (chart_x size.nodes c + 11) (chart_y size.nodes c size.nodes + 35)
    ∷ []

-- The column.

-- of slot t, of which these are the lines, behind the column of slot `before`
abbrev pub column_of : Size → ℕ → Option ℕ → ℕ → List FaultTold → Lines
column_of size c before t faults =
    number_line size.nodes c before t ++ gap_line size.nodes c before t
    ++ lines_below (block_lines size c t faults) size.nodes
    ++ flat_map (mark_lines size c) faults ++ slot_sum_lines size c t faults

abbrev pub column_lines : Size → List ℕ → List FaultTold → ℕ → Lines
column_lines size shown faults c =
    let t = get_or shown c 0 in
    column_of size c (shown_before shown c) t (faults_told_in t faults)
