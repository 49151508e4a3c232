-- The promises of `verify MEDL SCRIPT TRACE` and of `modes MEDL SCRIPT TRACE` in their own words. They speak of the
-- whole text that the file of the trace holds, however long it is.
use Rattle.std.specs.Prelude.{◌≡◌, ◌⊎◌, ◌<◌, ◌≤◌, ℕ, true, false, List, [], ◌∷◌}
use Rattle.ttp_base.specs.Outside.{holds, HasRisen, Output, Wrote, WroteLines, CutShort}
use Rattle.ttp_base.specs.Text.{Lines, lines_of}
use Rattle.ttp_world.specs.declared.keep.Keep.TheVariants as keep
use Rattle.ttp_world.specs.declared.medl.Medl.{Medl}
use Rattle.ttp_world.specs.declared.script.Script.{Script}
use Rattle.ttp_world.specs.Hypothesis.{keeps}
use Rattle.ttp_world.specs.TraceNumbers.{numbers_in}
use Rattle.trace_check.specs.Answer.{is_trace}
use Rattle.mode_change.specs.ModeText.{mode_lines}
use Rattle.theorems.specs.ModeText.{ShowsOneMode}
use Rattle.commands.specs.Plan.{Outside}
use Rattle.commands.specs.Right.{MayBe, AreRight, AreTold}
use Rattle.ttp_top.specs.Calls.Answer.{BenchAnswer}
use Rattle.trace_check.specs.Difference.{IsDifference}
use Rattle.ttp_top.specs.Calls.Differences.{same_line}

-- what a command writes for a text that is a trace of a list and a script
abbrev pub OfTrace : Type 0
OfTrace = Medl → Script → List ℕ → Lines

-- that it is one
abbrev pub said_same : OfTrace
said_same medl right text = same_line ∷ []

-- which mode each node runs, in the run with the message numbers that it names
abbrev pub said_modes : OfTrace
said_modes medl right text = mode_lines medl right (numbers_in medl right (lines_of text))

-- The verdict on a text: the lines for a trace, with status 0, where it is the trace of a run, and else the line that
-- names the first wrong one, with status 1.
abbrev pub IsVerdict : OfTrace → Medl → Script → List ℕ → ℕ → Lines → Type 0
IsVerdict said medl right text status lines =
    ((status ≡ 0) × ((is_trace medl right text ≡ true) × (lines ≡ said medl right text)))
    ⊎ ((status ≡ 1) × ((is_trace medl right text ≡ false) × IsDifference medl right text lines))

-- it was written
pub record HasJudged (said : OfTrace) (medl : Medl) (right : Script) (text : List ℕ) (before now : Output) (status : ℕ)
    : Type 0 where
  pub lines : Lines
  pub verdict : IsVerdict said medl right text status lines
  pub wrote : WroteLines before now lines

-- a fault of the sink cut it short
pub record CutVerdict (said : OfTrace) (medl : Medl) (right : Script) (text : List ℕ) (before now : Output) : Type 0
  where
    pub status : ℕ
    pub lines : Lines
    pub verdict : IsVerdict said medl right text status lines
    pub cut : CutShort before now lines

-- it was written on a text, for a list and a script, that the files of these names may be
pub record IsJudged (said : OfTrace) (list script trace : List ℕ) (before now : Outside) (status : ℕ) : Type 0 where
  pub bytes : List ℕ
  pub script_bytes : List ℕ
  pub text : List ℕ
  pub medl : Medl
  pub right : Script
  pub list_file : MayBe (before.files.held list) bytes
  pub script_file : MayBe (before.files.held script) script_bytes
  pub trace_file : MayBe (before.files.held trace) text
  pub are : AreRight bytes script_bytes medl right
  pub judged : HasJudged said medl right text before.output now.output status

-- the files of these names hold a right list, a right script and a text, and no count of a name rose
pub record AreAllTold (list script trace : List ℕ) (before now : Outside) (medl : Medl) (right : Script)
    (text : List ℕ) : Type 0 where
  pub files : AreTold list script before now medl right
  pub trace_file : before.files.held trace ≡ holds text
  pub trace_quiet : ¬ HasRisen (before.files.faults trace) (now.files.faults trace)

-- what a command promises that judges a text
pub record TextPromise (said : OfTrace) (list script trace : List ℕ) (before now : Outside)
    (answer : BenchAnswer) : Type 0
  where
    -- Status 0 says that the text is a trace, and status 1 that it is none, and what belongs to that was written.
    pub judged : answer.status ≤ 1 → IsJudged said list script trace before now answer.status
    -- A right list and a right script give the verdict on any text, unless a count rose or memory was refused: then
    -- nothing was written.
    pub complete : (medl : Medl) (right : Script) (text : List ℕ)
        → AreAllTold list script trace before now medl right text → ¬ HasRisen before.output.faults now.output.faults
        → HasJudged said medl right text before.output now.output answer.status
        ⊎ ((answer.status ≡ 7) × Wrote before.output now.output [])
    -- With status 6 the verdict was cut short.
    pub cut : (medl : Medl) (right : Script) (text : List ℕ)
        → AreAllTold list script trace before now medl right text → answer.status ≡ 6
        → CutVerdict said medl right text before.output now.output

-- what `verify` promises in its own words
abbrev pub VerifyPromise : (list script trace : List ℕ) (before now : Outside) (answer : BenchAnswer) → Type 0
VerifyPromise list script trace before now answer = TextPromise said_same list script trace before now answer

-- a text of modes of a script that keeps the single-fault hypothesis shows one mode for all correct nodes after each
-- slot from the start on
abbrev pub ShowOneMode : Medl → Script → Lines → Type 0
ShowOneMode medl right lines =
    (start : ℕ) → keeps medl right ≡ keep.Yes start → (slot : ℕ) → start ≤ slot → slot < right.slots
    → ShowsOneMode medl right lines slot

-- what `modes` promises in its own words
pub record ModesPromise (list script trace : List ℕ) (before now : Outside) (answer : BenchAnswer) : Type 0 where
  pub text : TextPromise said_modes list script trace before now answer
  pub open text use *
  -- what was written on a trace with status 0 shows one mode
  pub one_mode : answer.status ≡ 0 → (was : IsJudged said_modes list script trace before now answer.status)
      → ShowOneMode was.medl was.right was.judged.lines
