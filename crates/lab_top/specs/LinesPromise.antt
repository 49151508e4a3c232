-- The promise of a form that writes lines of a list and a script, in words that hold of each such form.
use Rattle.std.specs.Prelude.{◌≡◌, ◌⊎◌, ℕ, List, [], ◌∷◌, codes, Ok, Err}
use Rattle.ttp_base.specs.Outside.{Gives, HasRisen, Wrote, WroteLines, CutShort}
use Rattle.ttp_world.specs.declared.medl.Medl.{Medl}
use Rattle.ttp_world.specs.declared.script.Script.{Script}
use Rattle.ttp_world.specs.Medl.{IsValid}
use Rattle.ttp_world.specs.Script.{IsValidScript}
use Rattle.ttp_base.specs.Text.{Lines}
use Rattle.fault_runs.specs.Ends.{WroteFewer}
use Rattle.commands.specs.declared.read.FileFault.{FileFault}
use Rattle.commands.specs.Faults.{file_fault_line}
use Rattle.commands.specs.Plan.{Outside}
use Rattle.commands.specs.Read.{list_limit, list_from, script_limit, script_from}
use Rattle.commands.specs.Right.{MayBe, AreRight, AreTold}
use Rattle.lab_top.specs.ViewPromise.{HoldsText, WroteOrNone}

-- The files of these names may be a list and a script, and they are valid.
pub record MayBeBoth (list script : List ℕ) (before : Outside) (medl : Medl) (right : Script) : Type 0 where
  pub bytes : List ℕ
  pub script_bytes : List ℕ
  pub list_file : MayBe (before.files.held list) bytes
  pub script_file : MayBe (before.files.held script) script_bytes
  pub are : AreRight bytes script_bytes medl right
  pub valid : IsValid medl
  pub valid_script : IsValidScript medl right

-- exactly their lines were written, each as one piece
pub record WroteAll (lines : Medl → Script → Lines) (list script : List ℕ) (before now : Outside) : Type 0 where
  pub medl : Medl
  pub right : Script
  pub files : MayBeBoth list script before medl right
  pub wrote : WroteLines before.output now.output (lines medl right)

-- some of their first lines were written, or none, and never all
pub record WroteSome (lines : Medl → Script → Lines) (list script : List ℕ) (before now : Outside) : Type 0 where
  pub medl : Medl
  pub right : Script
  pub files : MayBeBoth list script before medl right
  pub wrote : WroteFewer before.output now.output (lines medl right)

-- the line was written that says what is wrong with the list that was loaded
pub record ToldList (list : List ℕ) (before now : Outside) : Type 0 where
  pub bytes : List ℕ
  pub gives : Gives (before.files.held list) list_limit bytes
  pub fault : FileFault
  pub wrong : list_from bytes ≡ Err fault
  pub wrote : WroteLines before.output now.output (file_fault_line (codes "list") fault ∷ [])

-- the line was written that says what is wrong with the script that was loaded, for the list that was loaded before it
pub record ToldScript (list script : List ℕ) (before now : Outside) : Type 0 where
  pub list_bytes : List ℕ
  pub list_gives : Gives (before.files.held list) list_limit list_bytes
  pub medl : Medl
  pub right : list_from list_bytes ≡ Ok medl
  pub bytes : List ℕ
  pub gives : Gives (before.files.held script) script_limit bytes
  pub fault : FileFault
  pub wrong : script_from medl bytes ≡ Err fault
  pub wrote : WroteLines before.output now.output (file_fault_line (codes "script") fault ∷ [])

-- a call that is asked for these lines of a list and a script promises
pub record LinesPromise (lines : Medl → Script → Lines) (list script : List ℕ)
    (before now : Outside) (status : ℕ) : Type 0
  where
    -- Status 0 says that the files are a list and a script, and that exactly their lines were written.
    pub shown : status ≡ 0 → WroteAll lines list script before now
    -- Status 3 says that the first file is no list, and status 4 that the second is no script for it, and that the line
    -- was written that says what is wrong.
    pub no_list : status ≡ 3 → ToldList list before now
    pub no_script : status ≡ 4 → ToldScript list script before now
    -- A right list and a right script give their lines, unless a count rose or memory was refused: then some of the
    -- first ones stand, or none, and never all.
    pub complete : (medl : Medl) (right : Script) → AreTold list script before now medl right
        → ¬ HasRisen before.output.faults now.output.faults
        → ((status ≡ 0) × WroteLines before.output now.output (lines medl right))
        ⊎ ((status ≡ 7) × WroteFewer before.output now.output (lines medl right))
    -- Any other list, however long, gives the line on it, and any other script for a right list.
    pub list_told : (bytes : List ℕ) (fault : FileFault) → HoldsText list before now bytes
        → ¬ HasRisen before.output.faults now.output.faults → list_from bytes ≡ Err fault
        → WroteOrNone 3 (file_fault_line (codes "list") fault ∷ []) before.output now.output status
    pub script_told : (bytes : List ℕ) (medl : Medl) (script_bytes : List ℕ) (fault : FileFault)
        → HoldsText list before now bytes → list_from bytes ≡ Ok medl → HoldsText script before now script_bytes
        → ¬ HasRisen before.output.faults now.output.faults → script_from medl script_bytes ≡ Err fault
        → WroteOrNone 4 (file_fault_line (codes "script") fault ∷ []) before.output now.output status
    -- With status 6 the lines were cut short.
    pub cut : (medl : Medl) (right : Script) → AreTold list script before now medl right → status ≡ 6
        → CutShort before.output now.output (lines medl right)
    -- With status 7 nothing was written, or some first lines, and never all.
    pub begun : status ≡ 7 → Wrote before.output now.output [] ⊎ WroteSome lines list script before now
