-- The promise of `frames LIST SCRIPT TRACE` in its own words. They speak of the whole text that the file of the trace
-- holds, however long it is.
use Rattle.std.specs.Prelude.{◌≡◌, ◌⊎◌, ℕ, true, false, List, [], ◌∷◌, codes, Ok, Err}
use Rattle.ttp_base.specs.Outside.{holds, HasRisen, Output, Wrote, WroteLines, CutShort}
use Rattle.ttp_base.specs.Text.{Lines}
use Rattle.ttp_world.specs.declared.medl.Medl.{Medl}
use Rattle.ttp_world.specs.declared.script.Script.{Script}
use Rattle.trace_check.specs.Answer.{is_trace}
use Rattle.commands.specs.declared.read.FileFault.{FileFault}
use Rattle.commands.specs.Faults.{file_fault_line}
use Rattle.commands.specs.Plan.{Outside}
use Rattle.commands.specs.Read.{list_from, script_from}
use Rattle.commands.specs.Right.{MayBe, AreTold}
use Rattle.lab_top.specs.LinesPromise.{MayBeBoth, ToldList, ToldScript}
use Rattle.trace_check.specs.Difference.{IsDifference}
use Rattle.lab_top.specs.Frames.{frames_named}
use Rattle.lab_top.specs.ViewPromise.{HoldsText, WroteOrNone}

-- the files of these names may be a list, a script for it, and this text
pub record MayBeAll (list script trace : List ℕ) (before : Outside) (medl : Medl) (right : Script) (text : List ℕ)
    : Type 0 where
  pub both : MayBeBoth list script before medl right
  pub trace_file : MayBe (before.files.held trace) text

-- exactly the frames of a text that is a trace were written, each line as one piece
pub record WroteFrames (list script trace : List ℕ) (before now : Outside) : Type 0 where
  pub medl : Medl
  pub right : Script
  pub text : List ℕ
  pub files : MayBeAll list script trace before medl right text
  pub same : is_trace medl right text ≡ true
  pub wrote : WroteLines before.output now.output (frames_named medl right text)

-- the line was written that names the first wrong line of a text
pub record WroteDifference (medl : Medl) (right : Script) (text : List ℕ) (before now : Output) : Type 0 where
  pub lines : Lines
  pub first : IsDifference medl right text lines
  pub wrote : WroteLines before now lines

-- the line that names the first wrong line of a text was cut short
pub record CutDifference (medl : Medl) (right : Script) (text : List ℕ) (before now : Output) : Type 0 where
  pub lines : Lines
  pub first : IsDifference medl right text lines
  pub cut : CutShort before now lines

-- it was written of a text that is no trace
pub record ToldDifference (list script trace : List ℕ) (before now : Outside) : Type 0 where
  pub medl : Medl
  pub right : Script
  pub text : List ℕ
  pub files : MayBeAll list script trace before medl right text
  pub other : is_trace medl right text ≡ false
  pub wrote : WroteDifference medl right text before.output now.output

-- the files of these names hold a right list, a right script and a text, and no count of a name rose
pub record AreAllTold (list script trace : List ℕ) (before now : Outside) (medl : Medl) (right : Script)
    (text : List ℕ) : Type 0 where
  pub files : AreTold list script before now medl right
  pub trace_file : before.files.held trace ≡ holds text
  pub trace_quiet : ¬ HasRisen (before.files.faults trace) (now.files.faults trace)

-- a call that is asked for frames promises
pub record FramesPromise (list script trace : List ℕ) (before now : Outside) (status : ℕ) : Type 0 where
  -- Status 0 says that the third file is a trace of the second for the first, and that exactly its frames were written.
  pub shown : status ≡ 0 → WroteFrames list script trace before now
  -- Status 1 says that it is none, and that the line was written that names its first wrong line.
  pub differs : status ≡ 1 → ToldDifference list script trace before now
  -- Status 3 says that the first file is no list, and status 4 that the second is no script for it, and that the line
  -- was written that says what is wrong.
  pub no_list : status ≡ 3 → ToldList list before now
  pub no_script : status ≡ 4 → ToldScript list script before now
  -- A trace gives its frames, unless a count rose or memory was refused: then nothing was written.
  pub complete : (medl : Medl) (right : Script) (text : List ℕ)
      → AreAllTold list script trace before now medl right text
      → ¬ HasRisen before.output.faults now.output.faults → is_trace medl right text ≡ true
      → WroteOrNone 0 (frames_named medl right text) before.output now.output status
  -- Any other text, however long, gives the line on it, and nothing of frames.
  pub difference : (medl : Medl) (right : Script) (text : List ℕ)
      → AreAllTold list script trace before now medl right text
      → ¬ HasRisen before.output.faults now.output.faults → is_trace medl right text ≡ false
      → ((status ≡ 1) × WroteDifference medl right text before.output now.output)
      ⊎ ((status ≡ 7) × Wrote before.output now.output [])
  -- Any other list gives the line on it, and any other script for a right list.
  pub list_told : (bytes : List ℕ) (fault : FileFault) → HoldsText list before now bytes
      → ¬ HasRisen before.output.faults now.output.faults → list_from bytes ≡ Err fault
      → WroteOrNone 3 (file_fault_line (codes "list") fault ∷ []) before.output now.output status
  pub script_told : (bytes : List ℕ) (medl : Medl) (script_bytes : List ℕ) (fault : FileFault)
      → HoldsText list before now bytes → list_from bytes ≡ Ok medl → HoldsText script before now script_bytes
      → ¬ HasRisen before.output.faults now.output.faults → script_from medl script_bytes ≡ Err fault
      → WroteOrNone 4 (file_fault_line (codes "script") fault ∷ []) before.output now.output status
  -- With status 6 the frames were cut short, or the line.
  pub cut : (medl : Medl) (right : Script) (text : List ℕ) → AreAllTold list script trace before now medl right text
      → is_trace medl right text ≡ true → status ≡ 6
      → CutShort before.output now.output (frames_named medl right text)
  pub cut_line : (medl : Medl) (right : Script) (text : List ℕ)
      → AreAllTold list script trace before now medl right text → is_trace medl right text ≡ false → status ≡ 6
      → CutDifference medl right text before.output now.output
