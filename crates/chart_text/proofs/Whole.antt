-- The chart of a campaign, by the slots that are shown.
use Rattle.chart_text.proofs.Words.{◌≡◌, ℕ, List, map, subst, Option, Result, OnOk, Output, WroteLines, Lines}
use Rattle.chart_text.proofs.Words.{counts_sum, Span, Size}
use Rattle.std.specs.Result.{IfErr}
use Rattle.whole_campaign.specs.Whole.{WholeCampaign}
use Rattle.chart_text.specs.declared.chart.ChartFault.{ChartFault}
use Rattle.chart_text.specs.Chart.{chart_of, chart_lines}
use Rattle.chart_text.specs.Columns.{size_of_campaign, slots_shown}
use Rattle.chart_text.specs.Walks.{LeftOfChart}

pub chart-whole : (campaign : WholeCampaign) (asked : Option Span) (size : Size) (shown : List ℕ)
    → size ≡ size_of_campaign campaign → shown ≡ slots_shown campaign asked
    → chart_of size campaign.own shown campaign.faults (counts_sum (map (λ piece. piece.kept) campaign.pieces))
    (counts_sum (map (λ piece. piece.broken) campaign.pieces))
    ≡ chart_lines campaign asked
chart-whole campaign asked size shown same is =
    λ i. chart_of (same i) campaign.own (is i) campaign.faults
    (counts_sum (map (λ piece. piece.kept) campaign.pieces))
    (counts_sum (map (λ piece. piece.broken) campaign.pieces))

-- along equations of the lines and the slots
pub wrote-whole : {T E : Type 0} (r : Result T E) (a b : Output) (x y : Lines) → x ≡ y → OnOk r (WroteLines a b x)
    → OnOk r (WroteLines a b y)
wrote-whole {T} {E} r a b x y same wrote = subst (λ (z : Lines). OnOk r (WroteLines a b z)) same wrote

pub left-whole : {T : Type 0} (r : Result T ChartFault) (s t : List ℕ) (a b : Output) (x y : Lines) → s ≡ t → x ≡ y
    → IfErr r (λ why. LeftOfChart why s a b x)
    → IfErr r (λ why. LeftOfChart why t a b y)
left-whole {T} r s t a b x y slots same left =
    subst (λ (z : Lines). IfErr r (λ why. LeftOfChart why t a b z)) same
    (subst (λ (u : List ℕ). IfErr r (λ why. LeftOfChart why u a b x)) slots left)
