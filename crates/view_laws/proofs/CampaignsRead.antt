-- The marks of the chart of a text that is a campaign.
use Rattle.std.proofs.Common.{◌≡◌, ℕ, ◌≤◌, List, [], ◌∷◌, Option, Some, None, refl}
use Rattle.std.proofs.Common.{subst, arith, codes, bytes_eq, map}
use Rattle.std.specs.Prelude.{Ok}
use Rattle.ttp_base.specs.Text.{Lines, lines_of}
use Rattle.line_text.specs.Labels.{after_label}
use Rattle.view_laws.proofs.FromBelow.{guarded, some_same, bound}
use Rattle.whole_campaign.specs.declared.head.CampaignHead.{CampaignHead}
use Rattle.whole_campaign.specs.Words.{without_feed}
use Rattle.whole_campaign.specs.Runs.{run_words_in, test_in, cost_in, head_of_line}
use Rattle.whole_campaign.specs.Due.{piece_begun}
use Rattle.whole_campaign.specs.Own.{OwnShown, own_in, own_of_line, Common}
use Rattle.whole_campaign.specs.Whole.{WholeCampaign, one_further, wrong_line, campaign_from, or_wrong}
use Rattle.whole_campaign.specs.Whole.{behind_own, behind_first, whole_of, campaign_in}
use Rattle.whole_campaign.specs.Readable.{counts_sum}
use Rattle.picture_text.specs.declared.window.Span.{Span}
use Rattle.chart_text.specs.Chart.{chart_lines}
use Rattle.chart_text.specs.Columns.{size_of_campaign, is_tried, first_told_slot, slots_shown, tried_slots}
use Rattle.chart_text.specs.Looks.{does_harm}
use Rattle.view_laws.specs.Marks.{lines_drawn}
use Rattle.view_laws.proofs.Draws.{Draws}
use Rattle.view_laws.proofs.ChartDraws.{IsOwnPlain, ArePlain, chart-draws}
use Rattle.view_laws.proofs.PlainLines.{plain-behind, plain-is, plain-cost, plain-tested, plain-run}
use Rattle.view_laws.proofs.ReadLines.{line-from, lines-read}
use Rattle.view_laws.proofs.SlotOrder.{AreInSlotOrder, ascend-shown, ascend-tried, columns-drawn}
use Rattle.ttp_world.proofs.SmallTests.{spelled}

-- The script's own line.

own-plain : (n slots : ℕ) (bytes : List ℕ) (own : OwnShown) → own_in n slots bytes ≡ Some own → IsOwnPlain own
unfolding own_in
own-plain n slots bytes own e =
    let rest = bound (after_label (codes "slot - node -") bytes) _ own e in
    let run = bound (run_words_in rest.value) _ own rest.gives in
    let t = bound (test_in run.value.test) _ own run.gives in
    let cost = bound (cost_in n slots run.value.cost) _ own t.gives in
    let g = guarded (bytes_eq run.value.fault (codes "-")) _ own cost.gives in
    let tested = plain-tested run.value.test t.value t.read in
    let costs = plain-cost n slots run.value.cost cost.value cost.read in
    let fault = plain-is run.value.fault (codes "-") (spelled run.value.fault (codes "-") g.0) refl in
    subst IsOwnPlain (some_same _ own g.1) (record {
      text = plain-behind (codes "slot - node -") bytes rest.value rest.read refl
          (plain-run rest.value run.value run.read tested costs fault);
      test_text = tested;
      cost = costs;
    })

line-plain : (n slots : ℕ) (line : List ℕ) (own : OwnShown) → own_of_line n slots line ≡ Some own → IsOwnPlain own
unfolding own_of_line
line-plain n slots line own e =
    let bytes = bound (without_feed line) (own_in n slots) own e in own-plain n slots bytes.value own bytes.gives

-- A campaign that a text is.

record CanBeDrawn (campaign : WholeCampaign) : Type 0 where
  own : IsOwnPlain campaign.own
  order : AreInSlotOrder campaign.faults
  plain : ArePlain campaign.faults

pub or-drawn : (whole campaign : WholeCampaign) (o : Option ℕ)
    → or_wrong whole (one_further (one_further o)) ≡ Ok campaign
    → (o ≡ None) × (whole ≡ campaign)
or-drawn whole campaign None e = (refl, cc)
or-drawn whole campaign (Some n) e = cc

own-drawn : (h : CampaignHead) (lines : Lines) (campaign : WholeCampaign) (line : List ℕ) (o : Option OwnShown)
    → own_of_line h.nodes h.slots line ≡ o → (h.first ≤ h.first)
    × (h.first ≤ h.last) → behind_own h lines o ≡ Ok campaign
    → CanBeDrawn campaign
own-drawn h lines campaign line None read from e = cc
own-drawn h lines campaign line (Some own) read from e =
    let frame : Common = record { nodes = h.nodes; slots = h.slots; own = own } in
    let begun = piece_begun h.first h.last in
    let both = or-drawn (campaign_from frame begun lines) campaign (wrong_line frame begun lines) e in
    let faults = lines-read frame begun lines h.first both.0 from in
    subst CanBeDrawn both.1 (record {
      own = line-plain h.nodes h.slots line own read;
      order = faults.order;
      plain = faults.plain;
    })

first-drawn : (lines : Lines) (campaign : WholeCampaign) (line : List ℕ)
    (o : Option CampaignHead) → head_of_line line ≡ o
    → behind_first lines o ≡ Ok campaign → CanBeDrawn campaign
first-drawn lines campaign line None read e = cc
first-drawn [] campaign line (Some h) read e = cc
first-drawn (own ∷ lines) campaign line (Some h) read e =
    own-drawn h lines campaign own (own_of_line h.nodes h.slots own) refl
    (line-from line h h.first read (omega arith)) e

whole-drawn : (lines : Lines) (campaign : WholeCampaign) → whole_of lines ≡ Ok campaign → CanBeDrawn campaign
whole-drawn [] campaign e = cc
whole-drawn (line ∷ lines) campaign e = first-drawn lines campaign line (head_of_line line) refl e

-- Its chart.

pub campaign-draws : (text : List ℕ) (campaign : WholeCampaign) (asked : Option Span) → campaign_in text ≡ Ok campaign
    → Draws (chart_lines campaign asked) (lines_drawn campaign asked)
campaign-draws text campaign asked is =
    let known = whole-drawn (lines_of text) campaign is in
    let size = size_of_campaign campaign in
    let shown = slots_shown campaign asked in
    let ascend = ascend-shown campaign.nodes (first_told_slot (does_harm size) campaign.faults) asked
    (tried_slots campaign.slots campaign.pieces) (ascend-tried (is_tried campaign.pieces) campaign.slots) in
    subst (Draws (chart_lines campaign asked)) (columns-drawn size shown campaign.faults ascend known.order)
    (chart-draws size campaign.own shown campaign.faults (counts_sum (map (λ piece. piece.kept) campaign.pieces))
    (counts_sum (map (λ piece. piece.broken) campaign.pieces)) known.own known.plain)
