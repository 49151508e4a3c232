-- Which slots a chart shows, and where they stand.
use Rattle.std.specs.Prelude.{ℕ, ◌+◌, ◌-◌, ◌*◌, ◌/◌, ◌%◌, ◌==◌, min, max, nat_le, Bool, ◌&&◌, not, if◌then◌else◌}
use Rattle.std.specs.Prelude.{List, [], ◌∷◌, length, filter, take, drop, position, Option, Some, None}
use Rattle.std.specs.Prelude.{option_and_then, unwrap_or}
use Rattle.std.specs.List.{list_any}
use Rattle.ttp_base.specs.NodeSet.{below}
use Rattle.whole_campaign.specs.declared.shown.FaultShown.{FaultShown}
use Rattle.whole_campaign.specs.declared.shown.Piece.{Piece}
use Rattle.whole_campaign.specs.Whole.{FaultTold, WholeCampaign}
use Rattle.picture_text.specs.declared.window.Span.{Span}
use Rattle.picture_text.specs.Window.{columns}
use Rattle.chart_text.specs.declared.size.Size.{Size}
use Rattle.chart_text.specs.Looks.{does_harm}

-- the nodes and the slots of each run
abbrev pub size_of_campaign : WholeCampaign → Size
size_of_campaign campaign = record { nodes = campaign.nodes; slots = campaign.slots }

-- The slots of the pieces.

abbrev pub is_of_piece : ℕ → Piece → Bool
is_of_piece t piece = nat_le piece.first t && nat_le t piece.last

-- whether faults of this slot are tried in a piece
abbrev pub is_tried : List Piece → ℕ → Bool
is_tried pieces t = list_any (is_of_piece t) pieces

-- such slots of a run, in their order
abbrev pub tried_slots : ℕ → List Piece → List ℕ
tried_slots slots pieces = filter (is_tried pieces) (below slots)

-- Those that are shown.

-- the slot of the first line of which a test holds
abbrev pub first_told_slot : (FaultShown → Bool) → List FaultTold → Option ℕ
first_told_slot test [] = None
first_told_slot test (fault ∷ faults) = if test fault.shown then Some fault.shown.slot else first_told_slot test faults

-- where a slot stands among others
abbrev pub place_in : List ℕ → ℕ → Option ℕ
place_in slots t = position (λ s. s == t) slots

-- the place of the slot of the first harm among these, or 0
abbrev pub place_of_harm : List ℕ → Option ℕ → ℕ
place_of_harm slots harm = unwrap_or (option_and_then (place_in slots) harm) 0

-- the most slots that are shown unasked
abbrev pub most_columns : ℕ → ℕ
most_columns n = columns n * max 1 (36 / n)

-- all of these, or else as many as that, from one round before the first harm on, where that can be
abbrev pub chosen_slots : ℕ → Option ℕ → List ℕ → List ℕ
chosen_slots n harm slots =
    if nat_le (length slots) (most_columns n)
    then slots
    else take (most_columns n)
    (drop (min (place_of_harm slots harm - n) (length slots - most_columns n)) slots)

abbrev pub is_asked : Span → ℕ → Bool
is_asked asked t = nat_le asked.first t && nat_le t asked.last

-- those of these that were asked for, or else those that are chosen
abbrev pub shown_among : ℕ → Option ℕ → Option Span → List ℕ → List ℕ
shown_among n harm None slots = chosen_slots n harm slots
shown_among n harm (Some asked) slots = filter (is_asked asked) slots

-- of the slots in which faults are tried
abbrev pub slots_shown : WholeCampaign → Option Span → List ℕ
slots_shown campaign asked =
    shown_among campaign.nodes (first_told_slot (does_harm (size_of_campaign campaign)) campaign.faults) asked
    (tried_slots campaign.slots campaign.pieces)

-- a line of a slot that is not shown
abbrev pub is_hidden : List ℕ → FaultShown → Bool
is_hidden shown fault = not (list_any (λ s. s == fault.slot) shown)

-- Places.

abbrev pub chart_band : ℕ → ℕ
chart_band n = 30 * n + 86

-- how many bands so many columns take
abbrev pub chart_bands : ℕ → ℕ → ℕ
chart_bands n many = (many - 1) / columns n + 1

-- where the list of the worst faults begins
abbrev pub list_top : ℕ → ℕ → ℕ
list_top n many = 132 + chart_band n * chart_bands n many

-- where the key begins below so many of them, and how high the chart is
abbrev pub key_top : ℕ → ℕ → ℕ → ℕ
key_top n many listed = list_top n many + 32 + 20 * listed

abbrev pub chart_height : ℕ → ℕ → ℕ → ℕ
chart_height n many listed = key_top n many listed + 530

-- the left edge of a column, and the upper edge of its row r
abbrev pub chart_x : ℕ → ℕ → ℕ
chart_x n c = 72 + 24 * (c % columns n)

abbrev pub chart_y : ℕ → ℕ → ℕ → ℕ
chart_y n c r = 160 + chart_band n * (c / columns n) + 30 * r

-- the left edge of what stands beside so many columns
abbrev pub beside_x : ℕ → ℕ → ℕ
beside_x n many = 84 + 24 * min (columns n) many
