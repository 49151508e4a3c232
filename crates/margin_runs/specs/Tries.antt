-- The runs of values, as they are told before they are taken.
use Rattle.std.specs.Prelude.{◌≡◌, ℕ, ◌<◌, ◌≤◌, ℤ, length, List, map, Option, Some, None, IfSome}
use Rattle.ttp_base.specs.Text.{Lines}
use Rattle.ttp_world.specs.declared.medl.Medl.{Medl}
use Rattle.ttp_world.specs.declared.script.Script.{Script}
use Rattle.ttp_world.specs.declared.script.TheConstants.{EVENT_LIMIT, DRIFT_LIMIT, JUMP_LIMIT}
use Rattle.ttp_world.specs.Medl.{IsValid}
use Rattle.ttp_world.specs.Script.{IsValidScript}
use Rattle.ttp_world.specs.ZerosWorld.{zeros_world}
use Rattle.clock_margins.specs.declared.margin.Sweep.{Sweep}
use Rattle.clock_margins.specs.MarginText.{range_line}
use Rattle.clock_margins.specs.Outcomes.{ValueTold, was_split_beside, told_of_value}
use Rattle.clock_margins.specs.Ranges.{Range}
use Rattle.clock_margins.specs.Sweeps.{values_from}
use Rattle.margin_text.specs.declared.told.Told.{Told}
use Rattle.margin_text.specs.Taken.{value_told}
use Rattle.run_costs.specs.declared.run.Run.{Run}
use Rattle.run_costs.specs.Standing.{IsRunAfter, IsSeenAfter}
use Rattle.margin_runs.specs.declared.beside.BesideRun.{BesideRun}
use Rattle.margin_runs.specs.declared.tried.SweepSetting.{SweepSetting}

-- the run has done so many slots, and memberships were split where it says so
pub record IsBesideAfter (beside : BesideRun) (list : Medl) (script : Script) (slots : ℕ) : Type 0 where
  pub run : IsSeenAfter beside.run list script slots
  pub node : beside.node < length list.slots
  pub split : beside.split ≡ was_split_beside list script beside.node (zeros_world list script slots)

-- a run that has done no slot, by whatever script
pub record IsUnbegun (run : Run) (list : Medl) : Type 0 where
  pub before : (script : Script) → IsRunAfter run list script 0

-- the most that a line of a script says of a drift or of a jump
abbrev pub clock_limit : Option ℕ → ℕ
clock_limit None = DRIFT_LIMIT
clock_limit (Some slot) = JUMP_LIMIT

-- a valid script with room for one event more, a node and a slot that it has, and values that a line may say
pub record MayTrySweep (common : SweepSetting) (sweep : Sweep) : Type 0 where
  pub valid : IsValid common.list.now
  pub script : IsValidScript common.list.now common.script.now
  pub room : length common.script.now.events < EVENT_LIMIT
  pub node : sweep.node < length common.list.now.slots
  pub slot : IfSome sweep.slot (λ slot. slot < common.script.now.slots)
  pub reach : common.reach ≤ clock_limit sweep.slot

-- the script's own run, beside the node that is swept; it has come to the slot of the jumps
pub record IsPastOfSweep (common : SweepSetting) (sweep : Sweep) (past : BesideRun) : Type 0 where
  pub run : IsBesideAfter past common.list.now common.script.now past.run.slots
  pub node : past.node ≡ sweep.node
  pub slot : IfSome sweep.slot (λ slot. past.run.slots ≡ slot)

-- what is told of so many values from one on
abbrev pub tolds_from : Medl → Script → Sweep → ℤ → ℕ → List ValueTold
tolds_from list script sweep first count = map (told_of_value list script sweep) (values_from first count)

-- these were told
abbrev pub are_told : List Told → List ValueTold
are_told all = map value_told all

-- the lines of ranges
abbrev pub range_lines : Medl → Sweep → List Range → Lines
range_lines list sweep ranges = map (range_line list sweep) ranges
