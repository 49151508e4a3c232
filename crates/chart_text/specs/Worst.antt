-- Which faults are worse than others, and the ten worst of a campaign.
use Rattle.std.specs.Prelude.{ℕ, zero, suc, ◌+◌, ◌==◌, max, nat_lt, Bool, ◌&&◌}
use Rattle.std.specs.Prelude.{◌||◌, List, [], ◌∷◌, ◌++◌, take, drop, insert}
use Rattle.std.specs.Prelude.{fold, codes, decimal, Option, Some, None, if◌then◌else◌}
use Rattle.std.specs.List.{position_or_len}
use Rattle.ttp_base.specs.Text.{Lines}
use Rattle.whole_campaign.specs.declared.shown.FaultShown.{FaultShown}
use Rattle.whole_campaign.specs.Whole.{FaultTold}
use Rattle.whole_campaign.specs.Words.{length_before}
use Rattle.picture_text.specs.Picture.{class_of, text_line}
use Rattle.chart_text.specs.declared.size.Size.{Size}
use Rattle.chart_text.specs.Elements.{wide_cell}
use Rattle.chart_text.specs.Looks.{does_harm, fault_look, look_number, look_text}

-- The worst.

-- one fault is worse than another: its look stands lower in the table, or it costs more healthy nodes with the same
-- look
abbrev pub is_worse : Size → FaultShown → FaultShown → Bool
is_worse size one other =
    nat_lt (look_number (fault_look size other)) (look_number (fault_look size one))
    || ((look_number (fault_look size other) == look_number (fault_look size one)) && nat_lt other.hurt one.hurt)

-- the worst so far, where one more follows: of two that are as bad, the first
abbrev pub worst_with : Size → Option FaultShown → FaultTold → Option FaultShown
worst_with size None fault = Some fault.shown
worst_with size (Some worst) fault = Some (if is_worse size fault.shown worst then fault.shown else worst)

abbrev pub worst_of : Size → List FaultTold → Option FaultShown
worst_of size faults = fold (worst_with size) None faults

-- The ten worst, the worst first.

-- where a fault belongs among these: before the first that is less bad
abbrev pub place_for : Size → FaultShown → List FaultTold → ℕ
place_for size fault worst = position_or_len (λ one. is_worse size fault one.shown) worst

-- the ten worst so far, where one more follows: a harmful one takes its place, and the eleventh falls out
abbrev pub ten_with : Size → List FaultTold → FaultTold → List FaultTold
ten_with size worst fault =
    if does_harm size fault.shown then take 10 (insert worst (place_for size fault.shown worst) fault) else worst

abbrev pub ten_worst : Size → List FaultTold → List FaultTold
ten_worst size faults = fold (ten_with size) [] faults

-- The words of a line.

-- a text up to its first space, and what stands behind that
abbrev pub first_word : List ℕ → List ℕ
first_word text = take (length_before 32 text) text

abbrev pub behind_first_word : List ℕ → List ℕ
behind_first_word text = drop (length_before 32 text + 1) text

-- what stands behind the first so many words of a text
abbrev pub words_from : ℕ → List ℕ → List ℕ
words_from zero text = text
words_from (suc n) text = behind_first_word (words_from n text)

-- the healthy nodes that left, and the fault, which are the twelfth word of a line and those from the nineteenth on
abbrev pub hurt_word : List ℕ → List ℕ
hurt_word text = first_word (words_from 11 text)

abbrev pub fault_in_line : List ℕ → List ℕ
fault_in_line text = words_from 18 text

-- The list of the worst.

-- which healthy nodes were lost, where there are any
abbrev pub lost_nodes : FaultTold → List ℕ
lost_nodes fault =
    if fault.shown.hurt == 0 then [] else codes " (" ++ hurt_word fault.text ++ codes ")"

abbrev pub lost_said : Size → FaultTold → List ℕ
lost_said size fault =
    look_text (fault_look size fault.shown) ++ codes ", healthy nodes lost: "
    ++ decimal fault.shown.hurt ++ lost_nodes fault

-- the lines of one of them, whose upper edge is y
abbrev pub listed_lines : Size → ℕ → FaultTold → Lines
listed_lines size y fault =
    wide_cell (look_text (fault_look size fault.shown)) 12 y
    (look_text (fault_look size fault.shown)) (decimal fault.shown.hurt)
    ∷ text_line [] 44 (y + 12) (fault_in_line fault.text)
    ∷ text_line [] 300 (y + 12) (lost_said size fault)
    ∷ []

-- the lines of these, one below another
abbrev pub list_lines : Size → ℕ → List FaultTold → Lines
list_lines size y [] = []
list_lines size y (fault ∷ faults) = listed_lines size y fault ++ list_lines size (y + 20) faults

abbrev pub list_title : ℕ → List ℕ
list_title harmful =
    if harmful == 0 then codes "no fault is harmful" else codes "the worst of "
    ++ decimal harmful ++ codes " harmful faults"

-- the ten worst of so many harmful faults, below this upper edge
abbrev pub worst_lines : Size → ℕ → ℕ → List FaultTold → Lines
worst_lines size top harmful worst =
    text_line (class_of (codes "said")) 12 (top + 8) (list_title harmful) ∷ list_lines size (top + 20) worst

-- the most healthy nodes that a harmful fault costs
abbrev pub most_lost : Size → List FaultTold → ℕ
most_lost size [] = 0
most_lost size (fault ∷ faults) =
    if does_harm size fault.shown then max fault.shown.hurt (most_lost size faults) else most_lost size faults
