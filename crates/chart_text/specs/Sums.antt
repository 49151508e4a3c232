-- What faults come to: the cell that sums them up, and how many of them are harmful.
use Rattle.std.specs.Prelude.{ℕ, ◌==◌, List, [], ◌∷◌, ◌++◌, length, get_or, map, filter, flat_map, count_by}
use Rattle.std.specs.Prelude.{Option, Some, None, codes, decimal, if◌then◌else◌}
use Rattle.ttp_base.specs.NodeSet.{below}
use Rattle.whole_campaign.specs.declared.shown.Doing.{Doing}
use Rattle.whole_campaign.specs.declared.shown.Doing.TheVariants as doing
use Rattle.whole_campaign.specs.declared.shown.FaultShown.{FaultShown}
use Rattle.whole_campaign.specs.Whole.{FaultTold}
use Rattle.picture_text.specs.Picture.{class_of, text_line}
use Rattle.chart_text.specs.declared.look.Look.TheVariants as look
use Rattle.chart_text.specs.declared.size.Size.{Size}
use Rattle.chart_text.specs.declared.sum.Summed.{Summed}
use Rattle.chart_text.specs.declared.sum.Summed.TheVariants as summed
use Rattle.chart_text.specs.Elements.{wide_cell}
use Rattle.chart_text.specs.Looks.{does_harm, fault_look, looks, look_number, look_text}
use Rattle.chart_text.specs.Worst.{worst_of}

-- Counts.

-- how many of these have each number below k
abbrev pub counts_by : {X : Type 0} → (X → ℕ) → ℕ → List X → List ℕ
counts_by number k xs = map (λ i. count_by (λ x. number x == i) xs) (below k)

-- how many lines have each look of the table
abbrev pub look_counts : Size → List FaultTold → List ℕ
look_counts size faults = counts_by (λ fault. look_number (fault_look size fault.shown)) (length looks) faults

abbrev pub harmful_among : Size → List FaultTold → ℕ
harmful_among size faults = count_by (λ fault. does_harm size fault.shown) faults

-- the lines of a node
abbrev pub faults_told_of : ℕ → List FaultTold → List FaultTold
faults_told_of k faults = filter (λ fault. fault.shown.node == k) faults

-- The cell.

-- whose lines are summed up
abbrev pub summed_name : Summed → List ℕ
summed_name (summed.OfCell slot node) = codes "slot " ++ decimal slot ++ codes " node " ++ decimal node
summed_name (summed.OfSlot slot) = codes "slot " ++ decimal slot
summed_name (summed.OfNode node) = codes "node " ++ decimal node

abbrev pub look_told : List ℕ → ℕ → List ℕ
look_told counts i =
    if get_or counts i 0 == 0 then []
    else codes ", " ++ look_text (get_or looks i look.Same) ++ codes " " ++ decimal (get_or counts i 0)

-- how many lines there are, and how many have each look that a line has
abbrev pub sum_told : Summed → ℕ → List ℕ → List ℕ
sum_told name many counts =
    summed_name name ++ codes " faults " ++ decimal many ++ flat_map (look_told counts) (below (length looks))

-- the class of the worst, and how many healthy nodes it costs where it is harmful
abbrev pub worst_class : Size → Option FaultShown → List ℕ
worst_class size None = codes "none"
worst_class size (Some worst) = look_text (fault_look size worst)

abbrev pub worst_shown : Size → Option FaultShown → List ℕ
worst_shown size None = codes "-"
worst_shown size (Some worst) = if does_harm size worst then decimal worst.hurt else []

-- the cell of so many lines with these counts of looks and this worst; these words stand behind its class
abbrev pub tally_cell : Size → Summed → List ℕ → ℕ → List ℕ → Option FaultShown → ℕ → ℕ → List ℕ
tally_cell size name also many counts worst x y =
    wide_cell (worst_class size worst ++ also) x y (sum_told name many counts) (worst_shown size worst)

abbrev pub sum_cell : Size → Summed → List ℕ → List FaultTold → ℕ → ℕ → List ℕ
sum_cell size name also faults x y =
    tally_cell size name also (length faults) (look_counts size faults) (worst_of size faults) x y

-- How many are harmful.

abbrev pub many_shown : ℕ → List ℕ
many_shown many = if many == 0 then [] else decimal many

abbrev pub harmful_line : ℕ → ℕ → ℕ → List ℕ
harmful_line many x y = text_line (class_of (codes "slot")) x y (many_shown many)

-- Who sends.

-- what the first of some lines does
abbrev pub first_doing : List FaultTold → Option Doing
first_doing [] = None
first_doing (fault ∷ faults) = Some fault.shown.doing

-- words behind the class of a cell whose first line is a `send`
abbrev pub sends_class : Option Doing → List ℕ
sends_class (Some doing.Send) = codes " sends"
sends_class _ = []
