-- The promise of `why LIST SCRIPT NODE [SLOT]` in its own words.
use Rattle.std.specs.Prelude.{◌≡◌, ◌⊎◌, ℕ, List, [], ◌∷◌, Option, codes, Ok, Err}
use Rattle.ttp_base.specs.Outside.{holds, HasRisen, Wrote, WroteLines, CutShort}
use Rattle.ttp_world.specs.declared.medl.Medl.{Medl}
use Rattle.ttp_world.specs.declared.script.Script.{Script}
use Rattle.ttp_world.specs.Medl.{IsValid}
use Rattle.ttp_world.specs.Script.{IsValidScript}
use Rattle.commands.specs.declared.read.FileFault.{FileFault}
use Rattle.commands.specs.Faults.{file_fault_line}
use Rattle.commands.specs.Plan.{Outside}
use Rattle.commands.specs.Read.{list_from, script_from}
use Rattle.commands.specs.Right.{MayBe, AreRight}
use Rattle.lab_top.specs.LinesPromise.{ToldList, ToldScript}
use Rattle.lab_top.specs.ViewPromise.{HoldsText, WroteOrNone}
use Rattle.why_answers.specs.Answer.{why_answer}

-- the files of these names may be a list, and a script for it of these bytes
pub record MayBeRead (list script : List ℕ) (before : Outside) (medl : Medl)
    (right : Script) (script_bytes : List ℕ) : Type 0
  where
    pub bytes : List ℕ
    pub list_file : MayBe (before.files.held list) bytes
    pub script_file : MayBe (before.files.held script) script_bytes
    pub are : AreRight bytes script_bytes medl right
    pub valid : IsValid medl
    pub valid_script : IsValidScript medl right

-- what is due of them with this status was written, each line as one piece
pub record WroteWhy (list script : List ℕ) (node : ℕ) (slot : Option ℕ)
    (before now : Outside) (status : ℕ) : Type 0 where
  pub medl : Medl
  pub right : Script
  pub script_bytes : List ℕ
  pub files : MayBeRead list script before medl right script_bytes
  pub due : (why_answer medl right script_bytes node slot).status ≡ status
  pub wrote : WroteLines before.output now.output (why_answer medl right script_bytes node slot).lines

-- the files of these names hold a right list, and a right script of these bytes, and no count of a name rose
pub record AreReadTold (list script : List ℕ) (before now : Outside) (medl : Medl)
    (right : Script) (script_bytes : List ℕ)
    : Type 0 where
  pub bytes : List ℕ
  pub list_file : before.files.held list ≡ holds bytes
  pub script_file : before.files.held script ≡ holds script_bytes
  pub are : AreRight bytes script_bytes medl right
  pub list_quiet : ¬ HasRisen (before.files.faults list) (now.files.faults list)
  pub script_quiet : ¬ HasRisen (before.files.faults script) (now.files.faults script)

-- a call that is asked why a node's entry is what it is promises
pub record WhyPromise (list script : List ℕ) (node : ℕ) (slot : Option ℕ)
    (before now : Outside) (status : ℕ) : Type 0 where
  -- Status 0 says that the files are a list and a script, and that exactly the lines of the entry's story were written,
  -- and status 1 that the node never leaves, and that the line was written that says so.
  pub shown : status ≡ 0 → WroteWhy list script node slot before now 0
  pub stays : status ≡ 1 → WroteWhy list script node slot before now 1
  -- Status 3 says that the first file is no list, or that the list has no such node, and status 4 that the second is no
  -- script for it, or that its run has no such slot, and that the line was written that says which.
  pub no_list : status ≡ 3 → ToldList list before now ⊎ WroteWhy list script node slot before now 3
  pub no_script : status ≡ 4 → ToldScript list script before now ⊎ WroteWhy list script node slot before now 4
  -- A right list and a right script give what is due of them, unless a count rose or memory was refused: then nothing
  -- was written.
  pub complete : (medl : Medl) (right : Script) (script_bytes : List ℕ)
      → AreReadTold list script before now medl right script_bytes
      → ¬ HasRisen before.output.faults now.output.faults
      → WroteOrNone (why_answer medl right script_bytes node slot).status
      (why_answer medl right script_bytes node slot).lines
      before.output now.output status
  -- Any other list, however long, gives the line on it, and any other script for a right list.
  pub list_told : (bytes : List ℕ) (fault : FileFault) → HoldsText list before now bytes
      → ¬ HasRisen before.output.faults now.output.faults → list_from bytes ≡ Err fault
      → WroteOrNone 3 (file_fault_line (codes "list") fault ∷ []) before.output now.output status
  pub script_told : (bytes : List ℕ) (medl : Medl) (script_bytes : List ℕ) (fault : FileFault)
      → HoldsText list before now bytes → list_from bytes ≡ Ok medl → HoldsText script before now script_bytes
      → ¬ HasRisen before.output.faults now.output.faults → script_from medl script_bytes ≡ Err fault
      → WroteOrNone 4 (file_fault_line (codes "script") fault ∷ []) before.output now.output status
  -- With status 6 what was due was cut short, and with status 7 nothing was written.
  pub cut : (medl : Medl) (right : Script) (script_bytes : List ℕ)
      → AreReadTold list script before now medl right script_bytes → status ≡ 6
      → CutShort before.output now.output (why_answer medl right script_bytes node slot).lines
  pub empty : status ≡ 7 → Wrote before.output now.output []
