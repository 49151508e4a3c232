-- The chart of a campaign by what it depends on.
use Rattle.std.proofs.Common.{◌≡◌, Option}
use Rattle.std.specs.Prelude.{filter}
use Rattle.ttp_base.specs.NodeSet.{below}
use Rattle.whole_campaign.specs.Whole.{WholeCampaign}
use Rattle.picture_text.specs.declared.window.Span.{Span}
use Rattle.chart_text.specs.declared.size.Size.{Size}
use Rattle.chart_text.specs.Chart.{chart_of, chart_lines}
use Rattle.chart_text.specs.Columns.{first_told_slot, shown_among}
use Rattle.chart_text.specs.Looks.{does_harm}
use Rattle.lab_laws.specs.Alike.{AreAlike}

pub same-charts : (one other : WholeCampaign) (asked : Option Span) → AreAlike one other
    → chart_lines one asked ≡ chart_lines other asked
same-charts one other asked alike =
    λ i. (let size : Size = record { nodes = alike.nodes i; slots = alike.slots i } in
    let slots = filter (λ t. alike.tried t i) (below (alike.slots i)) in
    chart_of size (alike.own i)
    (shown_among (alike.nodes i) (first_told_slot (does_harm size) (alike.faults i)) asked slots)
    (alike.faults i) (alike.kept i) (alike.broken i))
