-- The promise of `script LIST SLOTS NUMBER` in its own words.
use Rattle.std.specs.Prelude.{◌≡◌, ℕ, List, [], ◌∷◌, codes, Ok, Err}
use Rattle.ttp_base.specs.Outside.{HasRisen, WroteLines, CutShort}
use Rattle.ttp_world.specs.declared.medl.Medl.{Medl}
use Rattle.script_gen.specs.Generator.{generated}
use Rattle.script_lines.specs.ScriptLines.{script_lines}
use Rattle.commands.specs.declared.read.FileFault.{FileFault}
use Rattle.commands.specs.Faults.{file_fault_line}
use Rattle.commands.specs.Plan.{Outside}
use Rattle.commands.specs.Read.{list_from}
use Rattle.commands.specs.Right.{MayBe}
use Rattle.lab_top.specs.LinesPromise.{ToldList}
use Rattle.lab_top.specs.ViewPromise.{HoldsText, WroteOrNone}

-- the text was written of the script that the number gives for a list that the file of this name may be
pub record WroteScript (list : List ℕ) (slots number : ℕ) (before now : Outside) : Type 0 where
  pub bytes : List ℕ
  pub medl : Medl
  pub list_file : MayBe (before.files.held list) bytes
  pub right : list_from bytes ≡ Ok medl
  pub wrote : WroteLines before.output now.output (script_lines (generated medl slots number))

-- a call that is asked for a generated script promises
pub record ScriptPromise (list : List ℕ) (slots number : ℕ) (before now : Outside) (status : ℕ) : Type 0 where
  -- Status 0 says that the file is a list, and that exactly the text of its generated script was written.
  pub shown : status ≡ 0 → WroteScript list slots number before now
  -- Status 3 says that the file is none, and that the line was written that says what is wrong.
  pub no_list : status ≡ 3 → ToldList list before now
  -- A right list gives the text, unless a count rose or memory was refused: then nothing was written.
  pub complete : (bytes : List ℕ) (medl : Medl) → HoldsText list before now bytes
      → ¬ HasRisen before.output.faults now.output.faults → list_from bytes ≡ Ok medl
      → WroteOrNone 0 (script_lines (generated medl slots number)) before.output now.output status
  -- Any other list gives the line on it.
  pub list_told : (bytes : List ℕ) (fault : FileFault) → HoldsText list before now bytes
      → ¬ HasRisen before.output.faults now.output.faults → list_from bytes ≡ Err fault
      → WroteOrNone 3 (file_fault_line (codes "list") fault ∷ []) before.output now.output status
  -- With status 6 the text was cut short.
  pub cut : (bytes : List ℕ) (medl : Medl) → HoldsText list before now bytes → list_from bytes ≡ Ok medl → status ≡ 6
      → CutShort before.output now.output (script_lines (generated medl slots number))
