-- The text: a head, the line of the script's own run, the lines of each sweep, and the line of all.
use Rattle.std.specs.Prelude.{ℕ, List, [], ◌∷◌, ◌++◌, map, flat_map, Option, codes}
use Rattle.ttp_base.specs.Text.{Lines}
use Rattle.line_form.specs.Forms.{spelled, spelled_line}
use Rattle.ttp_world.specs.declared.medl.Medl.{Medl}
use Rattle.ttp_world.specs.declared.script.Script.{Script}
use Rattle.campaign.specs.declared.cost.Span.{Span}
use Rattle.campaign.specs.Lines.{own_line, summary}
use Rattle.ttp_world.specs.ZerosWorld.{zeros_world}
use Rattle.clock_margins.specs.declared.margin.Margin.{Margin}
use Rattle.clock_margins.specs.declared.margin.Sweep.{Sweep}
use Rattle.clock_margins.specs.Forms.{margins_head_form, margins_head_values, range_form}
use Rattle.clock_margins.specs.Forms.{range_values, outcome_form, outcome_values}
use Rattle.clock_margins.specs.Forms.{margin_form, margin_values, all_form, all_values}
use Rattle.clock_margins.specs.Outcomes.{ValueTold, told_of_value}
use Rattle.clock_margins.specs.Ranges.{Range, ranges_of}
use Rattle.clock_margins.specs.Sums.{margin_of, total_of}
use Rattle.clock_margins.specs.Sweeps.{reach, values, sweeps}

-- A sweep.

-- what is told of its values, in ascending order
abbrev pub tolds_of : Medl → Script → ℕ → Sweep → List ValueTold
tolds_of list script reach sweep = map (told_of_value list script sweep) (values reach)

-- the line of a range
abbrev pub range_line : Medl → Sweep → Range → List ℕ
range_line list sweep range =
    spelled range_form (range_values sweep range) ++ codes " " ++ range.test
    ++ spelled_line (outcome_form list) (outcome_values list range.outcome)

-- the line of the sweep
abbrev pub margin_line : Sweep → Margin → List ℕ
margin_line sweep margin = spelled_line margin_form (margin_values sweep margin)

-- the lines of its ranges, and the one that sums it up
abbrev pub lines_of_values : Medl → ℕ → Sweep → List ValueTold → Lines
lines_of_values list reach sweep tolds =
    map (range_line list sweep) (ranges_of tolds) ++ margin_line sweep (margin_of reach sweep.node tolds) ∷ []

abbrev pub sweep_lines : Medl → Script → ℕ → Sweep → Lines
sweep_lines list script reach sweep = lines_of_values list reach sweep (tolds_of list script reach sweep)

-- what it comes to
abbrev pub sweep_margin : Medl → Script → ℕ → Sweep → Margin
sweep_margin list script reach sweep = margin_of reach sweep.node (tolds_of list script reach sweep)

-- The whole.

abbrev pub margins_head : Medl → Script → Option Span → List ℕ
margins_head list script asked = spelled_line margins_head_form (margins_head_values list script asked)

-- the last line, by what the sweeps come to
abbrev pub all_line : Option Span → List Margin → List ℕ
all_line asked margins = spelled_line all_form (all_values asked (total_of margins))

-- all lines, by the sweeps
abbrev pub lines_of_sweeps : Medl → Script → Option Span → List Sweep → Lines
lines_of_sweeps list script asked swept =
    margins_head list script asked ∷ own_line list (summary list script)
    ∷ flat_map (sweep_lines list script (reach list asked)) swept
    ++ all_line asked (map (sweep_margin list script (reach list asked)) swept) ∷ []

-- the text of a list and a script, over the drifts of all nodes, or over the jumps of a range of slots
abbrev pub margin_lines : Medl → Script → Option Span → Lines
margin_lines list script asked =
    lines_of_sweeps list script asked (sweeps list script (zeros_world list script script.slots) asked)
