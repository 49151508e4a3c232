-- What the walks over the faults of a campaign have found so far.
use Rattle.std.specs.Prelude.{◌≡◌, ℕ, ◌+◌, ◌^◌, ◌<◌, max, List, [], ◌∷◌, length}
use Rattle.std.specs.Prelude.{get_or, replicate, fold, Option, Some, None}
use Rattle.std.specs.Option.{option_or}
use Rattle.whole_campaign.specs.declared.shown.FaultLine.{FaultLine}
use Rattle.whole_campaign.specs.Steps.{told_of}
use Rattle.whole_campaign.specs.Whole.{FaultTold}
use Rattle.ttp_base.specs.Outside.{Output, CutShort}
use Rattle.ttp_base.specs.Text.{Lines}
use Rattle.chart_text.specs.declared.chart.ChartFault.{ChartFault}
use Rattle.chart_text.specs.declared.chart.ChartFault.TheVariants as fault
use Rattle.chart_text.specs.declared.size.Size.{Size}
use Rattle.chart_text.specs.declared.survey.Survey.{Survey}
use Rattle.chart_text.specs.declared.tally.Tallies.{Tallies}
use Rattle.chart_text.specs.declared.tally.Tally.{Tally}
use Rattle.chart_text.specs.Sums.{faults_told_of, first_doing, harmful_among}
use Rattle.chart_text.specs.Worst.{most_lost, worst_of, worst_with}
use Rattle.chart_text.specs.Columns.{first_told_slot}
use Rattle.chart_text.specs.Key.{counter_of}
use Rattle.chart_text.specs.Looks.{does_harm, look_number, fault_look}
use Rattle.chart_text.specs.Steps.{AreFaultsCounted, longest_text}

-- the first of some faults, if there is one, and those behind it
abbrev pub told_ahead : Option FaultLine → List FaultTold → List FaultTold
told_ahead None rest = []
told_ahead (Some line) rest = told_of line ∷ rest

-- what came of some faults, but for those that are left
pub record IsTally (size : Size) (tally : Tally) (left all : List FaultTold) : Type 0 where
  pub long : length tally.counts ≡ 9
  pub counted : AreFaultsCounted (λ fault. look_number (fault_look size fault.shown)) tally.counts left all
  pub many : tally.many + length left ≡ length all
  pub harmful : tally.harmful + harmful_among size left ≡ harmful_among size all
  pub first : option_or tally.first (first_doing left) ≡ first_doing all
  pub worst : fold (worst_with size) tally.worst left ≡ worst_of size all

-- of no faults
abbrev pub no_tally : Tally
no_tally = record { counts = replicate 9 0; many = 0; harmful = 0; first = None; worst = None }

-- one fault more can be counted
pub record CanNote (tally : Tally) : Type 0 where
  pub many : tally.many < 2 ^ 63
  pub harmful : tally.harmful < 2 ^ 63
  pub counts : (i : ℕ) → i < length tally.counts → get_or tally.counts i 0 < 2 ^ 63

-- the tally of a node; there is one for each of them
abbrev pub tally_of : List Tally → ℕ → Tally
tally_of nodes k = get_or nodes k (record { counts = []; many = 0; harmful = 0; first = None; worst = None })

-- of all nodes that there can be
pub record AreTallies (size : Size) (tallies : Tallies) (left all : List FaultTold) : Type 0 where
  pub whole : IsTally size tallies.all left all
  pub long : length tallies.nodes ≡ 24
  pub each : (k : ℕ) → k < 24
      → IsTally size (tally_of tallies.nodes k) (faults_told_of k left) (faults_told_of k all)

-- a survey of all faults but for those that are left
pub record IsSurvey (size : Size) (survey : Survey) (left all : List FaultTold) : Type 0 where
  pub long : length survey.counts ≡ 252
  pub counted : AreFaultsCounted (λ fault. counter_of size fault.shown) survey.counts left all
  pub longest : max survey.longest (longest_text left) ≡ longest_text all
  pub harm : option_or survey.harm (first_told_slot (does_harm size) left) ≡ first_told_slot (does_harm size) all
  pub most : max survey.most (most_lost size left) ≡ most_lost size all

-- How a chart ends that was not written whole.

-- where no slot is to be shown, and where memory was refused, nothing was written
abbrev pub LeftOfChart : ChartFault → List ℕ → Output → Output → Lines → Type 0
LeftOfChart fault.NoSlot shown before now lines = (shown ≡ []) × (now ≡ before)
LeftOfChart fault.Memory shown before now lines = now ≡ before
LeftOfChart fault.Failed shown before now lines = CutShort before now lines
