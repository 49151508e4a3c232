-- A call that shows no chart, since no slot is to be shown, or since memory was refused.
use Rattle.std.proofs.Common.{◌≡◌, ℕ, ◌∙◌, Bool, arith, cond, List, [], ◌∷◌, length, rules, Option}
use Rattle.std.proofs.Common.{Result, Ok, Err, refl, sym, ap, subst, inl, inr, nat_lt}
use Rattle.std.specs.Prelude.{codes}
use Rattle.std.proofs.lemmas.Bool.{lt-ltb}
use Rattle.ttp_base.specs.Outside.{Output, Wrote, WroteLines, CutShort}
use Rattle.ttp_base.specs.Text.{Lines}
use Rattle.ttp_base.proofs.Outputs.{Wrote-none}
use Rattle.picture_text.specs.declared.window.Span.{Span}
use Rattle.whole_campaign.specs.Whole.{WholeCampaign, campaign_in}
use Rattle.chart_text.specs.declared.chart.ChartFault.{ChartFault}
use Rattle.chart_text.specs.declared.chart.ChartFault.TheVariants as none
use Rattle.chart_text.specs.Chart.{chart_lines}
use Rattle.chart_text.specs.Columns.{slots_shown}
use Rattle.chart_text.specs.Walks.{LeftOfChart}
use Rattle.commands.specs.Lines.{HasSaid}
use Rattle.commands.specs.Outcome.{Refused, ShowsEnding}
use Rattle.commands.specs.Plan.{whole_ending}
use Rattle.commands.specs.Texts.{no_texts, alone, one}
use Rattle.lab_top.proofs.FromBelow.{said}
use Rattle.lab_top.specs.declared.refusal.TextFault.{TextFault}
use Rattle.lab_top.specs.declared.refusal.TextFault.TheVariants as fault
use Rattle.lab_top.specs.Forms.{viewed_ending}
use Rattle.lab_top.specs.Refusals.{refused_text, value_from}
use Rattle.lab_top.specs.Texts.{ttplab}
use Rattle.lab_top.specs.Views.{View, chart_view, if_shown, viewed}

no-slot : (asked : Option Span) (text : List ℕ) (campaign : WholeCampaign) → Ok campaign ≡ value_from campaign_in text
    → slots_shown campaign asked ≡ [] → viewed (chart_view asked) text ≡ Err fault.NoSlot
no-slot asked text campaign read none =
    ap (if_shown (chart_view asked)) (sym read)
    ∙ ap (λ (slots : List ℕ). cond (nat_lt 0 (length slots)) (Ok campaign) (Err fault.NoSlot)) none

-- a chart that was written, or cut short

some-slot : (asked : Option Span) (text : List ℕ) (campaign : WholeCampaign) → Ok campaign ≡ value_from campaign_in text
    → ¬ (slots_shown campaign asked ≡ []) → viewed (chart_view asked) text ≡ Ok campaign
some-slot asked text campaign read some =
    ap (if_shown (chart_view asked)) (sym read) ∙ go (slots_shown campaign asked) some
  where
    go : (slots : List ℕ) → ¬ (slots ≡ [])
        → cond (nat_lt 0 (length slots)) (Ok campaign) (Err fault.NoSlot) ≡ Ok campaign
    go [] some = absurd (some refl)
    go (t ∷ slots) some =
        ap (λ (b : Bool). cond b (Ok campaign) (Err fault.NoSlot)) (lt-ltb 0 (length (t ∷ slots)) (omega arith))

all-written : (lines : Lines) (before now : Output) → WroteLines before now lines
    → ShowsEnding ttplab (whole_ending 0 (one lines)) before now (alone 0)
all-written lines before now wrote = search rules

cut-short : (lines : Lines) (before now : Output) → CutShort before now lines
    → ShowsEnding ttplab (whole_ending 0 (one lines)) before now (alone 6)
cut-short lines before now cut = search rules

pub shows_whole : (asked : Option Span) (text : List ℕ) (campaign : WholeCampaign) (before now : Output)
    → Ok campaign ≡ value_from campaign_in text → ¬ (slots_shown campaign asked ≡ [])
    → WroteLines before now (chart_lines campaign asked)
    → ShowsEnding ttplab (viewed_ending (chart_view asked) (viewed (chart_view asked) text)) before now (alone 0)
shows_whole asked text campaign before now read some wrote =
    subst (λ (r : Result WholeCampaign TextFault).
    ShowsEnding ttplab (viewed_ending (chart_view asked) r) before now (alone 0))
    (sym (some-slot asked text campaign read some)) (all-written (chart_lines campaign asked) before now wrote)

pub shows_cut : (asked : Option Span) (text : List ℕ) (campaign : WholeCampaign)
    (why : ChartFault) (before now : Output)
    → Ok campaign ≡ value_from campaign_in text → why ≡ none.Failed → ¬ (slots_shown campaign asked ≡ [])
    → LeftOfChart why (slots_shown campaign asked) before now (chart_lines campaign asked)
    → ShowsEnding ttplab (viewed_ending (chart_view asked) (viewed (chart_view asked) text)) before now (alone 6)
shows_cut asked text campaign none.Failed before now read is some left =
    subst (λ (r : Result WholeCampaign TextFault).
    ShowsEnding ttplab (viewed_ending (chart_view asked) r) before now (alone 6))
    (sym (some-slot asked text campaign read some)) (cut-short (chart_lines campaign asked) before now left)
shows_cut asked text campaign none.NoSlot before now read is some left = absurd (cc)
shows_cut asked text campaign none.Memory before now read is some left = absurd (cc)

-- the line was said, and nothing before it
pub shows_none : (asked : Option Span) (text : List ℕ) (campaign : WholeCampaign) (why : ChartFault) (lines : Lines)
    (before now later : Output) (status : ℕ) → Ok campaign ≡ value_from campaign_in text → why ≡ none.NoSlot
    → LeftOfChart why (slots_shown campaign asked) before now lines
    → HasSaid (refused_text (codes "campaign") fault.NoSlot) now later status
    → ShowsEnding ttplab (viewed_ending (chart_view asked) (viewed (chart_view asked) text)) before later (alone status)
shows_none asked text campaign none.NoSlot lines before now later status read is left told =
    let view = chart_view asked in
    let notice = refused_text (codes "campaign") fault.NoSlot in
    subst (λ (r : Result WholeCampaign TextFault). ShowsEnding ttplab (viewed_ending view r) before later
    (alone status))
    (sym (no-slot asked text campaign read left.0))
    (inl (said ttplab notice before later status (subst (λ (o : Output). HasSaid notice o later status) left.1 told)))
shows_none asked text campaign none.Memory lines before now later status read is left told = absurd (cc)
shows_none asked text campaign none.Failed lines before now later status read is left told = absurd (cc)

unfinished-none : {Value : Type 0} (view : View Value) (read : Result Value TextFault)
    → (viewed_ending view read).unfinished ≡ no_texts
unfinished-none view (Ok value) = refl
unfinished-none view (Err fault) = refl

-- nothing was written
pub shows_nothing : {Value : Type 0} (view : View Value)
    (read : Result Value TextFault) (why : ChartFault) (shown : List ℕ)
    (lines : Lines) (before now : Output) → why ≡ none.Memory → LeftOfChart why shown before now lines
    → ShowsEnding ttplab (viewed_ending view read) before now (alone 7)
shows_nothing view read none.Memory shown lines before now is left =
    inr (subst (λ texts. Refused ttplab texts before now (alone 7)) (sym (unfinished-none view read)) (record {
      status = refl;
      text = record {
        lines = [];
        among = refl;
        wrote = subst (λ (o : Output). Wrote before o []) (sym left) (Wrote-none before);
      };
      none = refl;
    }))
shows_nothing view read none.NoSlot shown lines before now is left = absurd (cc)
shows_nothing view read none.Failed shown lines before now is left = absurd (cc)
