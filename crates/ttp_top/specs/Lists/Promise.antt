-- The promise of `schedule MEDL` in its own words.
use Rattle.std.specs.Prelude.{◌≡◌, ◌⊎◌, ◌≤◌, ℕ, List, [], length, Ok}
use Rattle.ttp_base.specs.Outside.{HasRisen, Wrote, WroteLines, CutShort}
use Rattle.ttp_world.specs.declared.medl.Medl.{Medl}
use Rattle.medl_text.specs.ListFile.{medl_of}
use Rattle.medl_text.specs.Schedule.{slot_table}
use Rattle.commands.specs.Plan.{Outside}
use Rattle.commands.specs.Read.{list_limit}
use Rattle.commands.specs.Right.{MayBe}
use Rattle.ttp_top.specs.Calls.Answer.{BenchAnswer}
use Rattle.ttp_top.specs.Samples.Promise.{HoldsRightList}

-- the slot table was written of a list that the file of this name may be
pub record WroteTable (list : List ℕ) (before now : Outside) : Type 0 where
  pub bytes : List ℕ
  pub medl : Medl
  pub list_file : MayBe (before.files.held list) bytes
  pub size : length bytes ≤ list_limit
  pub right : medl_of bytes ≡ Ok medl
  pub wrote : WroteLines before.output now.output (slot_table medl)

-- what `schedule` promises in its own words
pub record SchedulePromise (list : List ℕ) (before now : Outside) (answer : BenchAnswer) : Type 0 where
  -- Status 0 says that the slot table of the list was written.
  pub table : answer.status ≡ 0 → WroteTable list before now
  -- A right list gives it and status 0, unless a count rose or memory was refused: then nothing was written.
  pub complete : (medl : Medl) → HoldsRightList list before now medl → ¬ HasRisen before.output.faults now.output.faults
      → ((answer.status ≡ 0) × WroteLines before.output now.output (slot_table medl))
      ⊎ ((answer.status ≡ 7) × Wrote before.output now.output [])
  -- With status 6 it was cut short.
  pub cut : (medl : Medl) → HoldsRightList list before now medl → answer.status ≡ 6
      → CutShort before.output now.output (slot_table medl)
