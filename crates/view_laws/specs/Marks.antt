-- The marks of a chart, as its text has them, and the lines of the campaign that they stand for.
use Rattle.std.specs.Prelude.{ℕ, Bool, ◌&&◌, not, List, ◌++◌, map, filter, get_or, Option, codes}
use Rattle.std.specs.List.{list_any}
use Rattle.ttp_base.specs.Text.{Lines}
use Rattle.ttp_world.specs.TraceNumbers.{is_digit}
use Rattle.whole_campaign.specs.Whole.{FaultTold, WholeCampaign}
use Rattle.picture_text.specs.declared.window.Span.{Span}
use Rattle.view_laws.specs.Titles.{begins_with}
use Rattle.chart_text.specs.declared.look.Look.{Look}
use Rattle.chart_text.specs.declared.size.Size.{Size}
use Rattle.chart_text.specs.Column.{is_plain}
use Rattle.chart_text.specs.Columns.{size_of_campaign, slots_shown, is_hidden}
use Rattle.chart_text.specs.Looks.{fault_look, looks, look_text}

-- what the line of a mark of this look begins with
abbrev pub mark_start : Look → List ℕ
mark_start look = codes "<path class=\"" ++ look_text look ++ codes "\" "

-- a line of a chart is a mark: a path whose class is a look
abbrev pub is_mark : List ℕ → Bool
is_mark line = list_any (λ look. begins_with (mark_start look) line) looks

-- a fault whose look is not `same`
abbrev pub is_drawn : Size → FaultTold → Bool
is_drawn size fault = not (is_plain (fault_look size fault.shown))

-- the faults whose slot is one of these, in their order
abbrev pub shown_among_slots : List ℕ → List FaultTold → List FaultTold
shown_among_slots slots faults = filter (λ fault. not (is_hidden slots fault.shown)) faults

-- the lines of the faults whose slot is shown and that are drawn, without their line feeds
abbrev pub lines_drawn : WholeCampaign → Option Span → Lines
lines_drawn campaign asked =
    map (λ fault. fault.text)
    (filter (is_drawn (size_of_campaign campaign)) (shown_among_slots (slots_shown campaign asked) campaign.faults))

-- a line of a campaign is that of a fault: `slot` and a number
abbrev pub is_fault_line : List ℕ → Bool
is_fault_line line = begins_with (codes "slot ") line && is_digit (get_or line 5 0)
