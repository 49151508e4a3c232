-- What holds of a run whose script keeps the single-fault hypothesis, and of one whose armed nodes are guaranteed their
-- places.
use Rattle.std.specs.Prelude.{ℕ, ◌<◌, ◌≤ℤ◌, ◌-ℤ◌, neg_ℤ, length}
use Rattle.ttp_world.specs.declared.medl.Medl.{Medl}
use Rattle.ttp_world.specs.declared.script.Script.{Script}
use Rattle.ttp_world.specs.BackSafety.{IsBackSafe}
use Rattle.ttp_world.specs.Diary.{History}
use Rattle.ttp_world.specs.Hypothesis.{needed, is_correct_after}
use Rattle.ttp_world.specs.Safety.{newest_slot, IsSafe}
use Rattle.precision.specs.Spread.{spread}
use Rattle.precision.specs.Together.{IsIn, clock_at, measured}
use Rattle.safety_laws.specs.SameFrames.{AcceptsAlikeSince}
use Rattle.mode_change.specs.OneMode.{RunsOneMode}
use Rattle.theorems.specs.Since.{HoldsSince}

-- At the beginning of the slot after a history, where the script has it, the clocks of any two nodes that are correct
-- in it are no further apart than the list's spread, and what one of them measures of the other lies no further from 0
-- than what the list needs. Both are in microticks.
pub record AreClocksNear (list : Medl) (script : Script) (history : History) : Type 0 where
  pub clocks : length history < script.slots → (j k : ℕ)
      → IsIn list (is_correct_after list script (length history)) j
      → IsIn list (is_correct_after list script (length history)) k
      → (clock_at list script history j -ℤ clock_at list script history k) ≤ℤ spread list
  pub deviations : length history < script.slots → (r p : ℕ)
      → IsIn list (is_correct_after list script (length history)) r
      → IsIn list (is_correct_after list script (length history)) p
      → (neg_ℤ (needed list) ≤ℤ measured list script history r p)
      × (measured list script history r p ≤ℤ needed list)

-- the nodes that are correct after the newest slot have accepted the same frames in each slot since the start
abbrev pub HaveJudgedAlike : Medl → Script → ℕ → History → Type 0
HaveJudgedAlike list script start history =
    AcceptsAlikeSince list script (is_correct_after list script (newest_slot history)) start history

-- they run one mode
abbrev pub RunOneMode : Medl → Script → History → Type 0
RunOneMode list script history =
    RunsOneMode list script (is_correct_after list script (newest_slot history)) history

-- a run of a script that keeps the single-fault hypothesis, whose cluster starts in slot `start`
pub record IsKeptRun (list : Medl) (script : Script) (start : ℕ) (history : History) : Type 0 where
  pub safe : HoldsSince (IsSafe list script) start history
  pub clocks : HoldsSince (AreClocksNear list script) start history
  pub frames : HoldsSince (HaveJudgedAlike list script start) start history
  pub modes : HoldsSince (RunOneMode list script) start history

-- a run of a script whose armed nodes are guaranteed their places, whose cluster starts in slot `start`
abbrev pub IsBackRun : Medl → Script → ℕ → History → Type 0
IsBackRun list script start history = HoldsSince (IsBackSafe list script) start history
