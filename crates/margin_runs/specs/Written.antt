-- What was written of margins so far.
use Rattle.std.specs.Prelude.{◌≡◌, ℕ, ◌<◌, nat_le, ◌&&◌, pos, neg_ℤ, List, [], ◌∷◌, map, flat_map, length, filter}
use Rattle.std.specs.Prelude.{Option, Some, if◌then◌else◌}
use Rattle.ttp_base.specs.Outside.{Output, WroteLines}
use Rattle.ttp_base.specs.Text.{Lines}
use Rattle.ttp_world.specs.declared.medl.Medl.{Medl}
use Rattle.ttp_world.specs.declared.node.Entry.{Entry}
use Rattle.ttp_world.specs.declared.script.Script.{Script}
use Rattle.ttp_world.specs.declared.script.TheConstants.{EVENT_LIMIT}
use Rattle.ttp_world.specs.Hypothesis.{nodes_of}
use Rattle.ttp_world.specs.Medl.{IsValid}
use Rattle.ttp_world.specs.Script.{IsValidScript, is_ever_on}
use Rattle.campaign.specs.declared.cost.Span.{Span}
use Rattle.campaign.specs.Lines.{own_line, summary}
use Rattle.campaign.specs.Tried.{is_timed}
use Rattle.ttp_world.specs.ZerosWorld.{zeros_world}
use Rattle.clock_margins.specs.declared.margin.Margin.{Margin}
use Rattle.clock_margins.specs.declared.margin.Sweep.{Sweep}
use Rattle.clock_margins.specs.declared.margin.Total.{Total}
use Rattle.clock_margins.specs.MarginText.{margins_head, sweep_lines, sweep_margin}
use Rattle.clock_margins.specs.Outcomes.{ValueTold}
use Rattle.clock_margins.specs.Ranges.{ranges_of}
use Rattle.clock_margins.specs.Sums.{total_of}
use Rattle.clock_margins.specs.Sweeps.{drift_sweep, jump_sweep, jumpers, sweeps}
use Rattle.margin_laws.specs.Behind.{closed_ranges}
use Rattle.margin_text.specs.declared.swept.Swept.{Swept}
use Rattle.margin_text.specs.Taken.{IsWritable, IsSweptOf, HasFew}
use Rattle.margin_runs.specs.declared.tried.SweepSetting.{SweepSetting}
use Rattle.margin_runs.specs.Tries.{tolds_from, range_lines}

-- A sweep.

-- what is told of so many values of a sweep, from the least one on
abbrev pub tolds_so_far : SweepSetting → Sweep → ℕ → List ValueTold
tolds_so_far common sweep count =
    tolds_from common.list.now common.script.now sweep (neg_ℤ (pos common.reach)) count

-- the lines of the ranges that no value more can make longer
abbrev pub closed_lines : Medl → Sweep → List ValueTold → Lines
closed_lines list sweep tolds = range_lines list sweep (closed_ranges (ranges_of tolds))

-- each outcome can be written
abbrev pub AreWritable : List ValueTold → Type 0
AreWritable [] = Unit {0}
AreWritable (told ∷ tolds) = IsWritable told.outcome × AreWritable tolds

-- from one output to another these lines were written, and the values taken
pub record IsPutOf (start now : Output) (list : Medl) (sweep : Sweep)
    (tolds : List ValueTold) (taken : Swept) : Type 0 where
  pub swept : IsSweptOf tolds taken
  pub node : taken.fold.node ≡ sweep.node
  pub few : HasFew (length tolds) taken
  pub wrote : WroteLines start now (closed_lines list sweep tolds)

-- a sweep has no more values than this, and adds no more to a total
abbrev pub most_values : ℕ
most_values = 2000001

abbrev pub most_in_sweep : ℕ
most_in_sweep = 6000004

-- all sweeps of a slot
abbrev pub most_in_slot : ℕ
most_in_slot = 144000096

-- Sweeps.

-- the lines of a sweep, and of some
abbrev pub lines_of_sweep : SweepSetting → Sweep → Lines
lines_of_sweep common sweep = sweep_lines common.list.now common.script.now common.reach sweep

abbrev pub lines_swept : SweepSetting → List Sweep → Lines
lines_swept common swept = flat_map (lines_of_sweep common) swept

-- what a sweep comes to
abbrev pub margin_of_sweep : SweepSetting → Sweep → Margin
margin_of_sweep common sweep = sweep_margin common.list.now common.script.now common.reach sweep

-- from one output to another these sweeps were written, and they come to this
pub record AreSwept (start now : Output) (common : SweepSetting) (swept : List Sweep) (all : Total) : Type 0 where
  pub wrote : WroteLines start now (lines_swept common swept)
  pub total : all ≡ total_of (map (margin_of_sweep common) swept)

-- a script with room for one event more
pub record MayPut (common : SweepSetting) : Type 0 where
  pub valid : IsValid common.list.now
  pub script : IsValidScript common.list.now common.script.now
  pub room : length common.script.now.events < EVENT_LIMIT

-- Which sweeps there are.

-- the drift of a node, if it is ever on
abbrev pub drifts_of : Script → ℕ → List Sweep
drifts_of script k = if is_ever_on script k then drift_sweep k ∷ [] else []

abbrev pub all_drifts : Medl → Script → List Sweep
all_drifts list script = map drift_sweep (filter (is_ever_on script) (nodes_of list))

-- the jump of a node in a slot, by what it did there
abbrev pub jump_sweeps_of : ℕ → ℕ → Entry → List Sweep
jump_sweeps_of slot k entry = if is_timed entry then jump_sweep slot k ∷ [] else []

-- those of all nodes
abbrev pub jumps_in : Medl → Script → ℕ → List Sweep
jumps_in list script slot = map (jump_sweep slot) (jumpers list (zeros_world list script script.slots) slot)

-- where the slot is in the range
abbrev pub jumps_asked : Medl → Script → Span → ℕ → List Sweep
jumps_asked list script asked slot =
    if nat_le asked.first slot && nat_le slot asked.last then jumps_in list script slot else []

abbrev pub all_sweeps : Medl → Script → Option Span → List Sweep
all_sweeps list script asked = sweeps list script (zeros_world list script script.slots) asked

abbrev pub all_jumps : Medl → Script → Span → List Sweep
all_jumps list script asked = all_sweeps list script (Some asked)

-- the first two lines
abbrev pub lines_in_front : Medl → Script → Option Span → Lines
lines_in_front list script asked = margins_head list script asked ∷ own_line list (summary list script) ∷ []
