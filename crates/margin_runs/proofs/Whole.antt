-- The parts of the text, one after another: the first two lines, those of sweeps, and the last one.
use Rattle.std.proofs.Common.{◌≡◌, ℕ, List, [], ◌∷◌, ◌++◌, map, ap, subst, Option}
use Rattle.std.specs.Prelude.{flat_map}
use Rattle.ttp_base.specs.Outside.{Output, WroteLines}
use Rattle.ttp_base.specs.Text.{Lines}
use Rattle.ttp_base.proofs.Outputs.{Wrote-join}
use Rattle.ttp_world.specs.declared.medl.Medl.{Medl}
use Rattle.ttp_world.specs.declared.script.Script.{Script}
use Rattle.campaign.specs.declared.cost.Span.{Span}
use Rattle.clock_margins.specs.MarginText.{sweep_lines, sweep_margin, all_line, margin_lines}
use Rattle.clock_margins.specs.Sweeps.{reach}
use Rattle.fault_runs.specs.declared.put.CampaignFault.{CampaignFault}
use Rattle.fault_runs.specs.Ends.{LeftBy, LeftFewerBy}
use Rattle.margin_runs.proofs.FromBelow.{fewer-after, fewer-more, more-is_fewer}
use Rattle.margin_runs.specs.Written.{all_sweeps, lines_in_front}

module _ (list : Medl) (script : Script) (asked : Option Span) (far : ℕ) (is : far ≡ reach list asked) where
  abbrev front : Lines
  front = lines_in_front list script asked

  abbrev lines : Lines
  lines = flat_map (sweep_lines list script far) (all_sweeps list script asked)

  abbrev pub last_line : List ℕ
  last_line = all_line asked (map (sweep_margin list script far) (all_sweeps list script asked))

  whole : front ++ (lines ++ last_line ∷ []) ≡ margin_lines list script asked
  whole =
      ap (λ (r : ℕ). lines_in_front list script asked
      ++ (flat_map (sweep_lines list script r) (all_sweeps list script asked)
      ++ all_line asked (map (sweep_margin list script r) (all_sweeps list script asked)) ∷ [])) is

  -- where it ends in the first two lines
  pub front-left : (why : CampaignFault) (a b : Output) → LeftFewerBy why a b front
      → LeftFewerBy why a b (margin_lines list script asked)
  front-left why a b left =
      subst (λ (text : Lines). LeftFewerBy why a b text) whole (fewer-more why a b front (lines ++ last_line ∷ []) left)

  -- in those of sweeps
  pub sweeps-left : (why : CampaignFault) (a b d : Output) → WroteLines a b front → LeftBy why b d lines
      → LeftFewerBy why a d (margin_lines list script asked)
  sweeps-left why a b d wrote left =
      subst (λ (text : Lines). LeftFewerBy why a d text) whole
      (fewer-after why a b d front (lines ++ last_line ∷ []) wrote (more-is_fewer why b d lines last_line [] left))

  -- in the last one
  pub last-left : (why : CampaignFault) (a b d e : Output) → WroteLines a b front → WroteLines b d lines
      → LeftFewerBy why d e (last_line ∷ []) → LeftFewerBy why a e (margin_lines list script asked)
  last-left why a b d e wrote swept left =
      subst (λ (text : Lines). LeftFewerBy why a e text) whole
      (fewer-after why a b e front (lines ++ last_line ∷ []) wrote
      (fewer-after why b d e lines (last_line ∷ []) swept left))

  -- where all are written
  pub all-written : (a b d e : Output) → WroteLines a b front → WroteLines b d lines → WroteLines d e (last_line ∷ [])
      → WroteLines a e (margin_lines list script asked)
  all-written a b d e wrote swept last =
      subst (λ (text : Lines). WroteLines a e text) whole
      (Wrote-join a b e front (lines ++ last_line ∷ []) wrote (Wrote-join b d e lines (last_line ∷ []) swept last))
